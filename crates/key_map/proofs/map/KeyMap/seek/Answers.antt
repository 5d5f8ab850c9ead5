use Rattle.std.proofs.Common.{[]}
use Rattle.key_map.proofs.BlockLaws.{where_sought}
use Rattle.small_values.proofs.Made.{seen}
use Rattle.key_map.proofs.map.KeyMap.seek.Goals as goal

pub returns-clause-value : goal.returns-clause-value
returns-clause-value g c =
    rw (← seen ([], []) c.in_ok-map.ensures.value c.self.view_is, ← c.map.view_is)
    (where_sought c.args.key.now c.map.inside.blocks.items c.as_slice-4.result.now c.as_slice-5.result.now c.hint_for-map-inside.result.block c.hint_for-map-inside.result.index c.value_there-3.result
    c.as_slice-4.ensures.value c.as_slice-5.ensures.value c.hint_for-map-inside.ensures.block c.hint_for-map-inside.ensures.index c.value_there-3.ensures.sought)
