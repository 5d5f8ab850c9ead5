use Rattle.std.proofs.Common.{rules}
use Rattle.std.proofs.lemmas.Fn.{always_returns_same}
use Rattle.key_map.specs.Blocks.{ends_before}
use Rattle.key_map.proofs.BlockLaws.{ends_first, block_rank_is}
use Rattle.key_map.proofs.blocks.block_of.Goals as goal

pub returns-clause-value : goal.returns-clause-value
returns-clause-value g c =
    let blocks = c.args.blocks.now in
    let key = c.args.key.now in
    block_rank_is key blocks c.partition_point.result c.partition_point.ensures.bound
    (c.partition_point.ensures.partitioned (ends_before key) (always_returns_same _ _ _ (λ a r f k. search rules)) (ends_first key blocks c.requires))
