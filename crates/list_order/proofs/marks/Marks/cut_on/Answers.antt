use Rattle.std.proofs.Common.{◌≡◌, ◌<◌, ◌+◌, min, ◌∙◌, sym, ap, subst, refl, length, arith}
use Rattle.list_order.specs.Slots.{slot_at, slots_from, LinksEnd}
use Rattle.list_order.specs.Marks.{mark_at, bit, set_block, IsMarked}
use Rattle.list_order.proofs.Scanning.{step}
use Rattle.list_order.proofs.Cutting.{IsPartlyCut, begin_cut, put_in, count_fits, close, all_cut}
use Rattle.list_order.proofs.marks.Marks.cut_on.Goals as goal

pub loop-at-init : goal.loop-at-init
loop-at-init c =
    let slots = c.args.chain.now.slots.items in
    let self = c.args.self.now in
    let begun =
    begin_cut slots c.args.chain.now.first self.by_slot.items self.blocks.items self.present c.behind_blocks-at.result c.none_open-rest.result.least_counter c.requires.fits
    c.behind_blocks-at.ensures.none c.behind_blocks-at.ensures.last in
    record {
      walk = begun.0;
      cut =
          subst (λ p. IsPartlyCut slots c.args.chain.now.first self.by_slot.items self.by_slot.items self.blocks.items c.behind_blocks-at.result p c.none_open-rest.result.least_counter)
          (sym c.none_open-rest.ensures) begun.1;
      present = refl;
      capacity = refl;
    }

pub set_block-is_present-requires : goal.set_block-is_present-requires
set_block-is_present-requires c =
    let s = step c.args.chain.now.slots.items c.loop-at.at c.in-Some.n c.in-Some.is c.loop-at.invariant.walk in
    omega (arith, s.within, c.loop-at.invariant.cut.len, c.requires.fits.marked)

pub slot_at-slot-requires : goal.slot_at-slot-requires
slot_at-slot-requires c = (step c.args.chain.now.slots.items c.loop-at.at c.in-Some.n c.in-Some.is c.loop-at.invariant.walk).within

pub overflow_add-longer : goal.overflow_add-longer
overflow_add-longer c =
    let slots = c.args.chain.now.slots.items in
    let l = c.loop-at in
    let s = step slots l.at c.in-Some.n c.in-Some.is l.invariant.walk in
    let few = count_fits slots c.args.chain.now.first c.args.self.now.by_slot.items c.requires.fits.walk c.requires.fits.marked l.self.by_slot.items l.self.blocks.items l.at l.rest.present l.rest.least_counter c.in-Some.n l.invariant.cut c.in-Some.is s in
    let one : c.bit.result ≡ bit (mark_at l.self.by_slot.items c.in-Some.n).is_present = c.bit.ensures ∙ ap bit c.set_block-is_present.ensures.presence in
    omega (arith, few, one, c.requires.fits.marked, l.invariant.cut.len, l.self.by_slot.ok.0)

pub loop-at-smaller : goal.loop-at-smaller
loop-at-smaller c =
    let slots = c.args.chain.now.slots.items in
    subst (λ s. length (slots_from slots s.next) < length (slots_from slots c.loop-at.at)) (sym c.slot_at-slot.ensures)
    (step slots c.loop-at.at c.in-Some.n c.in-Some.is c.loop-at.invariant.walk).shorter

pub loop-at-preserved : goal.loop-at-preserved
loop-at-preserved c =
    let slots = c.args.chain.now.slots.items in
    let first = c.args.chain.now.first in
    let before = c.args.self.now.by_slot.items in
    let l = c.loop-at in
    let s = step slots l.at c.in-Some.n c.in-Some.is l.invariant.walk in
    let one : c.bit.result ≡ bit (mark_at l.self.by_slot.items c.in-Some.n).is_present = c.bit.ensures ∙ ap bit c.set_block-is_present.ensures.presence in
    let put = put_in slots first before c.requires.fits.walk c.requires.fits.marked l.self.by_slot.items l.self.blocks.items l.at l.rest.present l.rest.least_counter c.in-Some.n l.invariant.cut c.in-Some.is s in
    let marks : c.set_block-is_present.new.marks.items ≡ set_block l.self.by_slot.items c.in-Some.n (length l.self.blocks.items) =
    c.set_block-is_present.ensures.items ∙ ap (set_block l.self.by_slot.items c.in-Some.n) (c.len-block.ensures ∙ l.self.blocks.ok.0) in
    record {
      walk = subst (λ s. LinksEnd slots s.next) (sym c.slot_at-slot.ensures) s.walk;
      cut =
          close slots first before c.set_block-is_present.new.marks.items l.self.blocks.items c.closed-rest.new.blocks.items c.slot_at-slot.result.now.next (l.rest.present + c.bit.result) c.min.result c.closed-rest.result.present c.closed-rest.result.least_counter
          (subst (λ b. IsPartlyCut slots first before c.set_block-is_present.new.marks.items l.self.blocks.items c.slot_at-slot.result.now.next (l.rest.present + c.bit.result) b) (sym c.min.ensures)
          (subst (λ m. IsPartlyCut slots first before m l.self.blocks.items c.slot_at-slot.result.now.next (l.rest.present + c.bit.result) (min l.rest.least_counter c.slot_at-slot.result.now.id.counter)) (sym marks)
          (subst (λ x. IsPartlyCut slots first before (set_block l.self.by_slot.items c.in-Some.n (length l.self.blocks.items)) l.self.blocks.items x.next (l.rest.present + c.bit.result) (min l.rest.least_counter x.id.counter)) (sym c.slot_at-slot.ensures)
          (subst (λ p. IsPartlyCut slots first before (set_block l.self.by_slot.items c.in-Some.n (length l.self.blocks.items)) l.self.blocks.items (slot_at slots c.in-Some.n).next (l.rest.present + p) (min l.rest.least_counter (slot_at slots c.in-Some.n).id.counter)) (sym one) put))))
          c.closed-rest.ensures;
      present = l.invariant.present;
      capacity = c.set_block-is_present.ensures.capacity ∙ l.invariant.capacity;
    }

pub returns-clause-fits : goal.returns-clause-fits
returns-clause-fits c =
    let l = c.loop-at in
    let self = c.args.self.now in
    subst (λ p. IsMarked c.args.chain.now.slots.items c.args.chain.now.first l.self.by_slot.items l.self.blocks.items p) (sym l.invariant.present)
    (all_cut c.args.chain.now.slots.items c.args.chain.now.first self.by_slot.items self.blocks.items self.present l.self.by_slot.items l.self.blocks.items l.at l.rest.present l.rest.least_counter c.requires.fits c.in_default.is l.invariant.cut)

pub returns-clause-same : goal.returns-clause-same
returns-clause-same c = record {
  same = c.loop-at.invariant.cut.same;
  room = c.loop-at.invariant.capacity;
}
