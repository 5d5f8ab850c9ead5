use Rattle.std.proofs.Common.{[], ◌≡◌, ◌∙◌, sym, ap, subst, IfOk}
use Rattle.list_order.specs.Entries.{present_of}
use Rattle.list_order.specs.Slots.{slots_from}
use Rattle.list_order.proofs.Presence.{present_of-entries}
use Rattle.small_values.proofs.Made.{seen}
use Rattle.list_order.proofs.ListOrder.present_ids.Goals as goal

pub present_ids-requires : goal.present_ids-requires
present_ids-requires c = c.linked.invariant.fits

pub returns : goal.returns
returns c =
    let chain = c.linked.inside.chain in
    subst (λ l. IfOk c.present_ids.result (λ ids. ids.items ≡ l))
    (sym (present_of-entries chain.slots.items c.linked.inside.marks.by_slot.items (slots_from chain.slots.items chain.first)) ∙ ap (λ v. present_of v.0) (c.linked.view_is ∙ seen ([], 0) c.in-Some.ensures c.self.view_is))
    c.present_ids.ensures
