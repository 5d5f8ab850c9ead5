use Rattle.std.proofs.Common.{◌∙◌, ap, map, filter}
use Rattle.presence_set.specs.ById.{uncovered}
use Rattle.presence_set.specs.Blocks.{has_pair, blocks_in}
use Rattle.presence_set.proofs.blocks.retain_among.Goals as goal

pub returns-clause-blocks : goal.returns-clause-blocks
returns-clause-blocks g c =
    let front = c.args.front.now in
    c.drop_empty.ensures ∙ ap (λ l. filter (λ b. has_pair b.0) l) c.retain_each.ensures
    ∙ ap (λ o. filter (λ b. has_pair b.0) (map (λ b. (uncovered front b.0, b.1)) (blocks_in o))) c.in-Some.ensures.value
