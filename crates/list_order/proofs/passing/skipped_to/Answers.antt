use Rattle.std.proofs.Common.{rules, ◌≡◌, ◌<◌, ◌∙◌, length, Some, sym, ap}
use Rattle.std.proofs.lemmas.List.{get_or_default}
use Rattle.list_order.specs.Marks.{block_at, no_block}
use Rattle.list_order.proofs.passing.skipped_to.Goals as goal

pub is_passed-requires : goal.is_passed-requires
is_passed-requires c =
    let blocks = c.args.marks.now.blocks.items in
    let k = c.at-k.result.block in
    let block = c.index-then-id-index.result.now in
    let within : k < length blocks = search rules in
    let end : (block_at blocks k).end ≡ Some c.in-Some.m = ap (λ b. b.end) (get_or_default blocks k no_block block within ∙ sym c.index-then-id-index.ensures) ∙ c.in-Some.is in
    c.requires.ends k within c.in-Some.m end
