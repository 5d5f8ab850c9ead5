use Rattle.std.proofs.Common.{◌≡◌, ◌+◌, ◌∙◌, [], rules, sym, ap, subst, take, drop, set, get_or}
use Rattle.std.specs.Prelude.{insert}
use Rattle.std.proofs.lemmas.List.{get_or_default}
use Rattle.key_map.specs.Blocks.{joined, AreBlocks}
use Rattle.key_map.proofs.BlockLaws.{blocks-cut, joined-cut}
use Rattle.key_map.proofs.blocks.cut.Goals as goal

pub returns-clause-blocks : goal.returns-clause-blocks
returns-clause-blocks g c =
    let blocks = c.args.blocks.now.items in
    let at = c.args.at in
    let half = c.args.half in
    let read = c.index_mut-block.result.now in
    let here : read ≡ get_or blocks at read = search rules in
    let is : read ≡ get_or blocks at [] = here ∙ get_or_default blocks at read [] c.requires.known in
    let cut : c.insert.new.self.items ≡ insert (set blocks at (take half (get_or blocks at []))) (at + 1) (drop half (get_or blocks at [])) =
    c.in-Ok.ensures.items ∙ ap (λ l. insert (set l at c.split_off.new.self.items) (at + 1) c.in_ok-entries.entries.items) c.reserve.ensures.items
    ∙ (λ i. insert (set blocks at ((c.in_ok-entries.ensures.items ∙ ap (take half) (c.block.view_is ∙ is)) i)) (at + 1) ((c.in_ok-entries.ensures.tail ∙ ap (drop half) (c.block.view_is ∙ is)) i)) in
    subst AreBlocks (sym cut) (blocks-cut blocks at half c.requires.blocks c.requires.known c.requires.some c.requires.more)

pub returns-clause-same : goal.returns-clause-same
returns-clause-same g c =
    let blocks = c.args.blocks.now.items in
    let at = c.args.at in
    let half = c.args.half in
    let read = c.index_mut-block.result.now in
    let here : read ≡ get_or blocks at read = search rules in
    let is : read ≡ get_or blocks at [] = here ∙ get_or_default blocks at read [] c.requires.known in
    let cut : c.insert.new.self.items ≡ insert (set blocks at (take half (get_or blocks at []))) (at + 1) (drop half (get_or blocks at [])) =
    c.in-Ok.ensures.items ∙ ap (λ l. insert (set l at c.split_off.new.self.items) (at + 1) c.in_ok-entries.entries.items) c.reserve.ensures.items
    ∙ (λ i. insert (set blocks at ((c.in_ok-entries.ensures.items ∙ ap (take half) (c.block.view_is ∙ is)) i)) (at + 1) ((c.in_ok-entries.ensures.tail ∙ ap (drop half) (c.block.view_is ∙ is)) i)) in
    ap joined cut ∙ joined-cut blocks at half c.requires.known
