use Rattle.std.proofs.Common.{rules}
use Rattle.std.specs.Ordering.{is_lt}
use Rattle.std.proofs.lemmas.Fn.{always_returns_same}
use Rattle.list_laws.proofs.Bisection.{lesser_first, rank_is}
use Rattle.key_map.specs.KeyOrder.{key_cmp}
use Rattle.key_map.proofs.KeyOrder.{keys_ordered}
use Rattle.key_map.proofs.blocks.rank_of_key.Goals as goal

pub returns-clause-value : goal.returns-clause-value
returns-clause-value g c =
    let entries = c.args.entries.now in
    let key = c.args.key.now in
    rank_is keys_ordered entries key c.partition_point.result c.partition_point.ensures.bound
    (c.partition_point.ensures.partitioned (λ e. is_lt (key_cmp e.0 key)) (always_returns_same _ _ _ (λ a r f k. search rules)) (lesser_first keys_ordered entries key c.requires))
