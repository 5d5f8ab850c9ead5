use Rattle.std.proofs.Common.{◌≡◌, ◌<◌, ◌+◌, ◌∙◌, [], rules, sym, ap, subst, length, take, drop, set, get_or}
use Rattle.std.specs.Prelude.{insert}
use Rattle.std.proofs.lemmas.List.{get_or_default}
use Rattle.presence_set.proofs.blocks.split_at.Goals as goal

pub returns-clause-ok : goal.returns-clause-ok
returns-clause-ok g c =
    let rest = c.args.rest.now.items in
    let at = c.args.at in
    let place = c.args.place in
    let block = get_or rest at ([], 0) in
    let low = c.split_off.new.self in
    let high = c.in_ok-high.high in
    let read = c.index_mut-block.result.now in
    let here : read ≡ get_or rest at read = search rules in
    let is : read ≡ block = here ∙ get_or_default rest at read ([], 0) c.requires.known in
    let low_is : low.0 ≡ take place block.0 = c.in_ok-high.ensures.low ∙ ap (λ z. take place z.0) is in
    let high_is : high.0 ≡ drop place block.0 = c.in_ok-high.ensures.high ∙ ap (λ z. drop place z.0) is in
    let room : place < low.1 = c.in_ok-high.ensures.room (subst (λ z. place < length z.0) (sym is) c.requires.inside) in (
      low.1,
      room,
      high.1,
      c.in-Ok.ensures.items ∙ ap (λ l. insert (set l at low) (at + 1) high) c.reserve.ensures.items
          ∙ (λ i. insert (set rest at (low_is i, low.1)) (at + 1) (high_is i, high.1)),
    )
