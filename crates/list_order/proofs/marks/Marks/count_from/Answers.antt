use Rattle.std.proofs.Common.{◌≡◌, ◌<◌, ◌+◌, ◌∙◌, sym, ap, subst, length, arith}
use Rattle.list_order.specs.Slots.{slot_at, slots_from, LinksEnd}
use Rattle.list_order.specs.Marks.{mark_at, count_to, bit}
use Rattle.list_order.proofs.Paths.{walk-None, length-path_from}
use Rattle.list_order.proofs.Scanning.{step}
use Rattle.list_order.proofs.Reaching.{count_to-few, count_to-least, count_to-on, count_to-reached}
use Rattle.list_order.proofs.marks.Marks.count_from.Goals as goal

pub at-is_present-requires : goal.at-is_present-requires
at-is_present-requires c =
    let s = step c.args.chain.now.slots.items c.loop-at.at c.in-Some.m c.in-Some.is c.loop-at.invariant.walk in
    subst (λ m. c.in-Some.m.0 < m) (sym c.requires.marked) s.within

pub overflow_add-count : goal.overflow_add-count
overflow_add-count c =
    let slots = c.args.chain.now.slots.items in
    let marks = c.args.self.now.by_slot.items in
    let s = step slots c.loop-at.at c.in-Some.m c.in-Some.is c.loop-at.invariant.walk in
    let one : c.bit-count.result ≡ bit (mark_at marks c.in-Some.m).is_present = c.bit-count.ensures ∙ ap (λ m. bit m.is_present) c.at-is_present.ensures in
    omega (
      arith,
      one,
      count_to-least marks c.args.n slots c.loop-at.at c.in-Some.m s,
      c.loop-at.invariant.same,
      count_to-few marks c.args.n (slots_from slots c.args.start),
      length-path_from slots c.args.start,
      c.args.chain.now.slots.ok.0,
    )

pub slot_at-requires : goal.slot_at-requires
slot_at-requires c = (step c.args.chain.now.slots.items c.loop-at.at c.in-Some.m c.in-Some.is c.loop-at.invariant.walk).within

pub loop-at-smaller : goal.loop-at-smaller
loop-at-smaller c =
    let slots = c.args.chain.now.slots.items in
    subst (λ s. length (slots_from slots s.next) < length (slots_from slots c.loop-at.at)) (sym c.slot_at.ensures)
    (step slots c.loop-at.at c.in-Some.m c.in-Some.is c.loop-at.invariant.walk).shorter

pub loop-at-preserved : goal.loop-at-preserved
loop-at-preserved c =
    let slots = c.args.chain.now.slots.items in
    let marks = c.args.self.now.by_slot.items in
    let n = c.args.n in
    let count = c.loop-at.count in
    let s = step slots c.loop-at.at c.in-Some.m c.in-Some.is c.loop-at.invariant.walk in
    let one : c.bit-count.result ≡ bit (mark_at marks c.in-Some.m).is_present = c.bit-count.ensures ∙ ap (λ m. bit m.is_present) c.at-is_present.ensures in
    let grouped : count + bit (mark_at marks c.in-Some.m).is_present + count_to n marks (slots_from slots (slot_at slots c.in-Some.m).next)
    ≡ count + (bit (mark_at marks c.in-Some.m).is_present + count_to n marks (slots_from slots (slot_at slots c.in-Some.m).next)) = omega arith in
    record {
      walk = subst (λ s. LinksEnd slots s.next) (sym c.slot_at.ensures) s.walk;
      same =
          (λ i. count + one i + count_to n marks (slots_from slots (c.slot_at.ensures i).next))
          ∙ grouped
          ∙ ap (λ z. count + z) (sym (count_to-on marks n slots c.loop-at.at c.in-Some.m s c.if-m-n.false))
          ∙ c.loop-at.invariant.same;
    }

pub returns-then-m-n : goal.returns-then-m-n
returns-then-m-n c =
    let slots = c.args.chain.now.slots.items in
    let marks = c.args.self.now.by_slot.items in
    let s = step slots c.loop-at.at c.in-Some.m c.in-Some.is c.loop-at.invariant.walk in
    let one : c.bit-count.result ≡ bit (mark_at marks c.in-Some.m).is_present = c.bit-count.ensures ∙ ap (λ m. bit m.is_present) c.at-is_present.ensures in
    omega (arith, one, count_to-reached marks c.args.n slots c.loop-at.at c.in-Some.m s c.if-m-n.true, c.loop-at.invariant.same)

pub returns-in_default : goal.returns-in_default
returns-in_default c =
    let slots = c.args.chain.now.slots.items in
    let marks = c.args.self.now.by_slot.items in
    let none : count_to c.args.n marks (slots_from slots c.loop-at.at) ≡ 0 =
    ap (count_to c.args.n marks) (ap (slots_from slots) c.in_default.is ∙ walk-None slots) in
    omega (arith, none, c.loop-at.invariant.same)
