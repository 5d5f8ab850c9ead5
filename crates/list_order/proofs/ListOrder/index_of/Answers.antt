use Rattle.std.proofs.Common.{[], ◌≡◌, ◌<◌, ◌∙◌, sym, ap, subst, length, Some, None}
use Rattle.list_order.specs.Entries.{present_of, up_to}
use Rattle.list_order.specs.Slots.{slots_from, number_along}
use Rattle.list_order.proofs.Inserting.{number_within}
use Rattle.list_order.proofs.Reaching.{count_to-up_to, count-up_to_none}
use Rattle.small_values.proofs.Made.{seen}
use Rattle.list_order.proofs.ListOrder.index_of.Goals as goal

pub count_to-requires-clause-fits : goal.count_to-requires-clause-fits
count_to-requires-clause-fits c = c.linked.invariant.fits

pub count_to-requires-clause-within : goal.count_to-requires-clause-within
count_to-requires-clause-within c =
    let n = c.in-Some-number_of.n in
    subst (λ m. n.0 < m) (sym c.linked.invariant.fits.marked)
    (number_within c.linked.invariant.order c.args.id n (sym c.number_of.ensures ∙ c.in-Some-number_of.is)).0

pub returns : goal.returns
returns c =
    let chain = c.linked.inside.chain in
    let path = slots_from chain.slots.items chain.first in
    let n = c.in-Some-number_of.n in
    let there : number_along chain.slots.items path c.args.id ≡ Some n =
    sym (c.linked.invariant.order.exact c.args.id) ∙ sym c.number_of.ensures ∙ c.in-Some-number_of.is in
    c.count_to.ensures
    ∙ count_to-up_to chain.slots.items c.linked.inside.marks.by_slot.items c.args.id path n there
    ∙ ap (λ v. length (present_of (up_to c.args.id v.0))) (c.linked.view_is ∙ seen ([], 0) c.in-Some.ensures c.self.view_is)

pub returns-in_default-number_of : goal.returns-in_default-number_of
returns-in_default-number_of c =
    let chain = c.linked.inside.chain in
    let path = slots_from chain.slots.items chain.first in
    let none : number_along chain.slots.items path c.args.id ≡ None =
    sym (c.linked.invariant.order.exact c.args.id) ∙ sym c.number_of.ensures ∙ c.in_default-number_of.is in
    c.linked.invariant.fits.all
    ∙ count-up_to_none chain.slots.items c.linked.inside.marks.by_slot.items c.args.id path none
    ∙ ap (λ v. length (present_of (up_to c.args.id v.0))) (c.linked.view_is ∙ seen ([], 0) c.in-Some.ensures c.self.view_is)
