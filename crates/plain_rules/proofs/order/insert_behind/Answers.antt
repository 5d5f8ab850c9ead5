use Rattle.std.proofs.Common.{rules, ◌≡◌, ◌<◌, ◌≤◌, length, drop, ◌+◌, ◌∙◌, sym, ap, subst}
use Rattle.std.specs.Prelude.{insert}
use Rattle.std.proofs.lemmas.List.{take_rest}
use Rattle.crdt_rules.specs.Places.{place_of, greater_len}
use Rattle.plain_rules.proofs.Placing.{place_behind-insert, place_behind-missing}
use Rattle.plain_rules.proofs.order.insert_behind.Goals as goal

pub returns-in_ok-insert-clause-done : goal.returns-in_ok-insert-clause-done
returns-in_ok-insert-clause-done c =
    let ids = c.args.order.now.items in
    let prev = c.args.previous.now in
    let id = c.args.id.now in
    let from : c.place_in-from.result ≡ place_of ids prev = c.place_in-from.ensures.value ∙ ap (λ l. place_of l prev) c.as_slice.ensures.value in
    let rest : c.greater_in.result ≡ greater_len (drop (c.place_in-from.result + 1) ids) id = search (rules, take_rest) in
    let within : c.place_in-from.result < length ids = search rules in
    c.in_ok-insert.ensures.items
    ∙ ap (λ n. insert ids (c.place_in-from.result + 1 + n) id) rest
    ∙ ap (λ n. insert ids (n + 1 + greater_len (drop (n + 1) ids) id) id) from
    ∙ sym (place_behind-insert ids prev id (subst (λ n. n < length ids) from within))

pub returns-else-from-len-clause-done : goal.returns-else-from-len-clause-done
returns-else-from-len-clause-done c =
    let ids = c.args.order.now.items in
    let id = c.args.previous.now in
    let from : c.place_in-from.result ≡ place_of ids id = c.place_in-from.ensures.value ∙ ap (λ l. place_of l id) c.as_slice.ensures.value in
    let within : length ids ≤ c.place_in-from.result = search rules in
    sym (place_behind-missing ids id c.args.id.now (subst (λ n. length ids ≤ n) from within))
