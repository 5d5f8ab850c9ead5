use Rattle.std.proofs.Common.{rules, ◌≡◌, ◌<◌, [], sym, subst, length, get_or}
use Rattle.key_map.specs.KeyOrder.{IsInKeyOrder}
use Rattle.key_map.proofs.BlockLaws.{rising_at}
use Rattle.key_map.proofs.blocks.hint_for.Goals as goal

pub rank_of_key-requires : goal.rank_of_key-requires
rank_of_key-requires g c =
    let blocks = c.args.blocks.now in
    let at = c.block_of-at.result in
    let within : at < length blocks = search rules in
    let is : c.as_slice.result.now ≡ get_or blocks at [] = search rules in
    subst IsInKeyOrder (sym is) (rising_at blocks c.requires.rising at [] within)
