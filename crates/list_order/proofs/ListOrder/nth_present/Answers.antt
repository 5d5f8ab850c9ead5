use Rattle.std.proofs.Common.{[], ◌∙◌, ap, sym, slice_get}
use Rattle.list_order.specs.Entries.{present_of}
use Rattle.list_order.specs.Slots.{slots_from}
use Rattle.list_order.proofs.Presence.{present_of-entries}
use Rattle.small_values.proofs.Made.{seen}
use Rattle.list_order.proofs.ListOrder.nth_present.Goals as goal

pub nth-requires : goal.nth-requires
nth-requires c = record { fits = c.linked.invariant.fits }

pub returns : goal.returns
returns c =
    let chain = c.linked.inside.chain in
    c.nth.ensures
    ∙ ap (λ l. slice_get l c.args.i) (sym (present_of-entries chain.slots.items c.linked.inside.marks.by_slot.items (slots_from chain.slots.items chain.first)))
    ∙ ap (λ v. slice_get (present_of v.0) c.args.i) (c.linked.view_is ∙ seen ([], 0) c.in_ok-linked.ensures c.self.view_is)
