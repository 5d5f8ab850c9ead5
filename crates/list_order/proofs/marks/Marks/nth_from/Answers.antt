use Rattle.std.proofs.Common.{◌≡◌, ◌<◌, ◌≤◌, ◌∙◌, ◌-◌, ◌&&◌, nat_eq, sym, ap, subst, length, slice_get, Some}
use Rattle.list_order.specs.Slots.{slot_at, slots_from, LinksEnd}
use Rattle.list_order.specs.Marks.{mark_at, present_along, bit}
use Rattle.list_order.proofs.Paths.{walk-None}
use Rattle.list_order.proofs.Scanning.{step}
use Rattle.list_order.proofs.Counting.{due, not_due, left_enough}
use Rattle.list_order.proofs.marks.Marks.nth_from.Goals as goal

pub slot_at-slot-requires : goal.slot_at-slot-requires
slot_at-slot-requires c = (step c.args.chain.now.slots.items c.loop-at.at c.in-Some.n c.in-Some.is c.loop-at.invariant.walk).within

pub at-is_present-requires : goal.at-is_present-requires
at-is_present-requires c =
    let s = step c.args.chain.now.slots.items c.loop-at.at c.in-Some.n c.in-Some.is c.loop-at.invariant.walk in
    subst (λ m. c.in-Some.n.0 < m) (sym c.requires.marked) s.within

pub overflow_sub-left : goal.overflow_sub-left
overflow_sub-left c =
    subst (λ b. b ≤ c.loop-at.left) (sym c.bit-left.ensures) (left_enough c.loop-at.left c.at-is_present.result.is_present (sym c.is_due.ensures ∙ c.if-is_due.false))

pub returns-then-is_due : goal.returns-then-is_due
returns-then-is_due c =
    let slots = c.args.chain.now.slots.items in
    let marks = c.args.self.now.by_slot.items in
    let s = step slots c.loop-at.at c.in-Some.n c.in-Some.is c.loop-at.invariant.walk in
    ap (λ s. Some s.id) c.slot_at-slot.ensures
    ∙ due slots marks c.loop-at.at c.in-Some.n s c.loop-at.left (ap (λ m. m.is_present && nat_eq c.loop-at.left 0) (sym c.at-is_present.ensures) ∙ sym c.is_due.ensures ∙ c.if-is_due.true)
    ∙ c.loop-at.invariant.same

pub loop-at-smaller : goal.loop-at-smaller
loop-at-smaller c =
    let slots = c.args.chain.now.slots.items in
    subst (λ s. length (slots_from slots s.next) < length (slots_from slots c.loop-at.at)) (sym c.slot_at-slot.ensures)
    (step slots c.loop-at.at c.in-Some.n c.in-Some.is c.loop-at.invariant.walk).shorter

pub loop-at-preserved : goal.loop-at-preserved
loop-at-preserved c =
    let slots = c.args.chain.now.slots.items in
    let marks = c.args.self.now.by_slot.items in
    let s = step slots c.loop-at.at c.in-Some.n c.in-Some.is c.loop-at.invariant.walk in
    let is : c.at-is_present.result.is_present ≡ (mark_at c.args.self.now.by_slot.items c.in-Some.n).is_present = ap (λ m. m.is_present) c.at-is_present.ensures in
    record {
      walk = subst (λ s. LinksEnd slots s.next) (sym c.slot_at-slot.ensures) s.walk;
      same =
          ap (λ s. slice_get (present_along slots marks (slots_from slots s.next)) (c.loop-at.left - c.bit-left.result)) c.slot_at-slot.ensures
          ∙ ap (λ b. slice_get (present_along slots marks (slots_from slots (slot_at slots c.in-Some.n).next)) (c.loop-at.left - b)) (c.bit-left.ensures ∙ ap bit is)
          ∙ not_due slots marks c.loop-at.at c.in-Some.n s c.loop-at.left (ap (λ p. p && nat_eq c.loop-at.left 0) (sym is) ∙ sym c.is_due.ensures ∙ c.if-is_due.false)
          ∙ c.loop-at.invariant.same;
    }

pub returns : goal.returns
returns c =
    let slots = c.args.chain.now.slots.items in
    let marks = c.args.self.now.by_slot.items in
    ap (λ l. slice_get (present_along slots marks l) c.loop-at.left) (sym (ap (slots_from slots) c.in_default.is ∙ walk-None slots))
    ∙ c.loop-at.invariant.same
