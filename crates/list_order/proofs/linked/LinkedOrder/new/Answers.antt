use Rattle.std.proofs.Common.{◌≡◌, ◌∙◌, ℕ, List, [], Option, None, ap, sym, subst}
use Rattle.lamport_id.specs.declared.id.Id.{Id}
use Rattle.list_order.specs.declared.slots.Slot.{Slot}
use Rattle.list_order.specs.declared.slots.SlotNumber.{SlotNumber}
use Rattle.list_order.specs.declared.marks.Mark.{Mark}
use Rattle.list_order.specs.declared.marks.MarkBlock.{MarkBlock}
use Rattle.list_order.specs.Slots.{slots_from}
use Rattle.list_order.specs.Marks.{entries_along, IsMarkedOrder}
use Rattle.list_order.proofs.Paths.{walk-None}
use Rattle.list_order.proofs.Adding.{none_kept}
use Rattle.list_order.proofs.linked.LinkedOrder.new.Goals as goal

pub invariant_of-result : goal.invariant_of-result
invariant_of-result c =
    let chain = c.new.ensures in
    let marks = c.new-3.ensures in
    let are : ◌≡◌ {A = List Slot × Option SlotNumber × List (Id × SlotNumber) × List Mark × List MarkBlock × ℕ} ([], None, [], [], [], 0)
    (c.new.result.slots.items, c.new.result.first, c.new-2.result.0, c.new-3.result.by_slot.items, c.new-3.result.blocks.items, c.new-3.result.present) =
    λ i. (sym chain.slots i, sym chain.first i, sym c.new-2.ensures i, sym marks.by_slot i, sym marks.blocks i, sym marks.present i) in
    subst (λ t. IsMarkedOrder t.0 t.1 t.2 t.3 t.4 t.5) are none_kept

pub returns : goal.returns
returns c =
    let slots = c.new.result.slots.items in
    let marks = c.new-3.result.by_slot.items in
    ap (λ at. entries_along slots marks (slots_from slots at)) c.new.ensures.first ∙ ap (entries_along slots marks) (walk-None slots)
