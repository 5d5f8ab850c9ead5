use Rattle.std.proofs.Common.{◌≡◌, ◌∙◌, [], ap, set, get_or}
use Rattle.std.specs.Prelude.{insert}
use Rattle.std.proofs.lemmas.List.{get_or_default}
use Rattle.key_map.specs.KeyOrder.{key_rank}
use Rattle.key_map.proofs.blocks.put_in.Goals as goal

pub returns-clause-ok : goal.returns-clause-ok
returns-clause-ok g c =
    let blocks = c.args.blocks.now.items in
    let at = c.args.at in
    let key = c.args.key in
    let read = c.index_mut-block.result.now in
    let is : c.block.inside.entries.items ≡ get_or blocks at [] = c.block.view_is ∙ c.index_mut-block.ensures.value ∙ get_or_default blocks at read [] c.requires.known in
    let place : c.rank_of_key-index.result ≡ key_rank (get_or blocks at []) key = c.rank_of_key-index.ensures.value ∙ ap (λ l. key_rank l key) (c.as_slice.ensures.value ∙ is) in
    ap (set blocks at) (c.in_ok-insert.ensures.items ∙ (λ i. insert (is i) (place i) (key, c.args.value)))
