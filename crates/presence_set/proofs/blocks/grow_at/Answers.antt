use Rattle.std.proofs.Common.{◌≡◌, ◌∙◌, [], rules, ap, set, get_or}
use Rattle.std.proofs.lemmas.List.{get_or_default}
use Rattle.presence_set.proofs.blocks.grow_at.Goals as goal

pub returns-clause-same : goal.returns-clause-same
returns-clause-same g c =
    let rest = c.args.rest.now.items in
    let new = c.reserve_one.new.self in
    let block = c.index_mut-block.result.now in
    let here : block ≡ get_or rest c.args.at block = search rules in
    let is : block ≡ get_or rest c.args.at ([], 0) = here ∙ get_or_default rest c.args.at block ([], 0) c.requires in
    let same : new.0 ≡ (get_or rest c.args.at ([], 0)).0 = c.reserve_one.ensures.same ∙ ap (λ z. z.0) is in
    (new.1, λ i. set rest c.args.at (same i, new.1))
