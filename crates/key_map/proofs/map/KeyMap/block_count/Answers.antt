use Rattle.std.proofs.Common.{[], ◌∙◌, sym}
use Rattle.key_map.proofs.Gone.{length-but_gone}
use Rattle.small_values.proofs.Made.{seen}
use Rattle.key_map.proofs.map.KeyMap.block_count.Goals as goal

pub returns : goal.returns
returns g c =
    rw (← seen ([], []) c.in-Some.ensures c.self.view_is, ← c.map.view_is)
    (c.len.ensures ∙ c.map.inside.blocks.ok.0 ∙ sym (length-but_gone c.map.inside.gone.items c.map.inside.blocks.items))
