use Rattle.std.proofs.Common.{◌∙◌, sym, ap}
use Rattle.std.specs.Prelude.{insert}
use Rattle.crdt_rules.specs.Places.{greater_len}
use Rattle.plain_rules.proofs.Placing.{place-insert}
use Rattle.plain_rules.proofs.order.insert_first.Goals as goal

pub returns-clause-done : goal.returns-clause-done
returns-clause-done c =
    let ids = c.args.order.now.items in
    let id = c.args.id.now in
    c.in_ok-insert.ensures.items
    ∙ ap (λ n. insert ids n id) (c.greater_in-at.ensures.value ∙ ap (λ l. greater_len l id) c.as_slice.ensures.value)
    ∙ sym (place-insert ids id)
