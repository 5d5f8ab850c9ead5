use Rattle.std.proofs.Common.{◌∙◌, sym, ap}
use Rattle.list_order.specs.Slots.{behind, passed, slots_from}
use Rattle.list_order.proofs.Inserting.{reference_on}
use Rattle.list_order.proofs.passing.place_for.Goals as goal

pub last_passed-requires-clause-fits : goal.last_passed-requires-clause-fits
last_passed-requires-clause-fits c = c.requires.fits.fits

pub last_passed-requires-clause-known : goal.last_passed-requires-clause-known
last_passed-requires-clause-known c = reference_on c.requires.fits.order c.args.after c.number_for-reference.result (sym c.number_for-reference.ensures)

pub returns : goal.returns
returns c =
    let slots = c.args.chain.now.slots.items in
    c.last_passed.ensures ∙ ap (λ r. passed slots c.args.id.now r (slots_from slots (behind slots c.args.chain.now.first r))) c.number_for-reference.ensures
