use Rattle.std.proofs.Common.{[]}
use Rattle.key_map.proofs.BlockLaws.{where_sought}
use Rattle.small_values.proofs.Made.{seen}
use Rattle.key_map.proofs.map.KeyMap.find_beside.Goals as goal

pub returns : goal.returns
returns g c =
    rw (← seen ([], []) c.in_ok-map.ensures c.self.view_is, ← c.map.view_is)
    (where_sought c.args.key.now c.map.inside.blocks.items c.as_slice-5.result.now c.as_slice-6.result.now c.hint_for.result.block c.hint_for.result.index c.value_there-3.result
    c.as_slice-5.ensures.value c.as_slice-6.ensures.value c.hint_for.ensures.block c.hint_for.ensures.index c.value_there-3.ensures.sought)
