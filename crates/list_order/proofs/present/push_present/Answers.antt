use Rattle.std.proofs.Common.{◌≡◌, ◌<◌, ◌-◌, ◌∙◌, ◌++◌, ◌∷◌, [], append_assoc, append-nil, sym, ap, subst, refl, length, List, take, if◌then◌else◌, arith}
use Rattle.std.proofs.lemmas.List.{take_all}
use Rattle.doc_api.specs.Words.{Id}
use Rattle.list_order.specs.Slots.{slot_at, slots_from, LinksEnd}
use Rattle.list_order.specs.Marks.{mark_at, present_along, bit}
use Rattle.list_order.proofs.Paths.{walk-None}
use Rattle.list_order.proofs.Scanning.{step}
use Rattle.list_order.proofs.Taking.{take_step}
use Rattle.list_order.proofs.present.push_present.Goals as goal

pub loop-at-init : goal.loop-at-init
loop-at-init c = record { walk = c.requires.walk; same = refl }

pub slot_at-slot-requires : goal.slot_at-slot-requires
slot_at-slot-requires c = (step c.args.chain.now.slots.items c.loop-at.at c.in-Some.n c.in-Some.is c.loop-at.invariant.walk).within

pub at-is_present-requires : goal.at-is_present-requires
at-is_present-requires c =
    let s = step c.args.chain.now.slots.items c.loop-at.at c.in-Some.n c.in-Some.is c.loop-at.invariant.walk in
    subst (λ m. c.in-Some.n.0 < m) (sym c.requires.marked) s.within

pub loop-at-smaller : goal.loop-at-smaller
loop-at-smaller c =
    let slots = c.args.chain.now.slots.items in
    subst (λ s. length (slots_from slots s.next) < length (slots_from slots c.loop-at.at)) (sym c.slot_at-slot.ensures)
    (step slots c.loop-at.at c.in-Some.n c.in-Some.is c.loop-at.invariant.walk).shorter

pub loop-at-preserved : goal.loop-at-preserved
loop-at-preserved c =
    let slots = c.args.chain.now.slots.items in
    let marks = c.args.marks.now.by_slot.items in
    let left = c.loop-at.left in
    let s = step slots c.loop-at.at c.in-Some.n c.in-Some.is c.loop-at.invariant.walk in
    let is : c.at-is_present.result.is_present ≡ (mark_at marks c.in-Some.n).is_present = ap (λ m. m.is_present) c.at-is_present.ensures in
    record {
      walk = subst (λ s. LinksEnd slots s.next) (sym c.slot_at-slot.ensures) s.walk;
      same =
          (λ i. c.in_ok-push_if.ensures i ++ take (left - c.bit-left.ensures i) (present_along slots marks (slots_from slots c.slot_at-slot.result.now.next)))
          ∙ (λ i. (c.loop-at.ids.items ++ (if is i then (c.slot_at-slot.ensures i).id ∷ [] else [])) ++ take (left - bit (is i)) (present_along slots marks (slots_from slots (c.slot_at-slot.ensures i).next)))
          ∙ append_assoc c.loop-at.ids.items (if (mark_at marks c.in-Some.n).is_present then (slot_at slots c.in-Some.n).id ∷ [] else [])
          (take (left - bit (mark_at marks c.in-Some.n).is_present) (present_along slots marks (slots_from slots (slot_at slots c.in-Some.n).next)))
          ∙ ap (λ l. c.loop-at.ids.items ++ l) (take_step slots marks c.loop-at.at c.in-Some.n s left c.if-left-eq0.false)
          ∙ c.loop-at.invariant.same;
    }

pub returns-then-left-eq0 : goal.returns-then-left-eq0
returns-then-left-eq0 c =
    let slots = c.args.chain.now.slots.items in
    sym (append-nil c.loop-at.ids.items)
    ∙ ap (λ m. c.loop-at.ids.items ++ take m (present_along slots c.args.marks.now.by_slot.items (slots_from slots c.loop-at.at))) (sym c.if-left-eq0.true)
    ∙ c.loop-at.invariant.same

pub returns-in_default : goal.returns-in_default
returns-in_default c =
    let slots = c.args.chain.now.slots.items in
    let marks = c.args.marks.now.by_slot.items in
    sym (append-nil c.loop-at.ids.items)
    ∙ ap (λ (l : List Id). c.loop-at.ids.items ++ l) (sym (take_all c.loop-at.left [] (omega arith)))
    ∙ ap (λ l. c.loop-at.ids.items ++ take c.loop-at.left (present_along slots marks l)) (sym (ap (slots_from slots) c.in_default.is ∙ walk-None slots))
    ∙ c.loop-at.invariant.same
