use Rattle.std.proofs.Common.{[]}
use Rattle.key_map.specs.Blocks.{joined}
use Rattle.key_map.proofs.ByKeyLaws.{at_key-own}
use Rattle.key_map.proofs.Gone.{rising-but_gone, some_of}
use Rattle.small_values.proofs.Made.{seen}
use Rattle.key_map.proofs.map.KeyMap.each.Goals as goal

pub returns-clause-rising : goal.returns-clause-rising
returns-clause-rising g c =
    rw (c.as_slice.ensures.value, c.as_slice-2.ensures.value)
    (rising-but_gone c.map.inside.gone.items c.map.inside.blocks.items c.map.invariant.rising)

pub returns-clause-some : goal.returns-clause-some
returns-clause-some g c =
    rw (c.as_slice.ensures.value, c.as_slice-2.ensures.value, ← seen ([], []) c.in-Some.ensures c.self.view_is, ← c.map.view_is)
    (λ e there. at_key-own (joined c.map.inside.blocks.items) c.map.invariant.rising e (some_of c.map.inside.gone.items c.map.inside.blocks.items e there))
