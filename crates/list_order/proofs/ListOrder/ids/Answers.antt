use Rattle.std.proofs.Common.{[], ◌≡◌, ◌∙◌, sym, ap, subst, IfOk}
use Rattle.list_order.specs.Entries.{ids_of}
use Rattle.list_order.specs.Slots.{slots_from}
use Rattle.list_order.proofs.Placing.{ids_of-entries}
use Rattle.small_values.proofs.Made.{seen}
use Rattle.list_order.proofs.ListOrder.ids.Goals as goal

pub ids-requires : goal.ids-requires
ids-requires c = c.linked.invariant.fits.walk

pub returns : goal.returns
returns c =
    let chain = c.linked.inside.chain in
    subst (λ l. IfOk c.ids.result (λ ids. ids.items ≡ l))
    (sym (ids_of-entries chain.slots.items c.linked.inside.marks.by_slot.items (slots_from chain.slots.items chain.first)) ∙ ap (λ v. ids_of v.0) (c.linked.view_is ∙ seen ([], 0) c.in-Some.ensures c.self.view_is))
    c.ids.ensures
