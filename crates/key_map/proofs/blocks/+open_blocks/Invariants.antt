use Rattle.std.proofs.Common.{length}
use Rattle.key_map.proofs.blocks.+open_blocks.Given as goal

-- proposed from what the function passes where it calls itself
abbrev pub decreases-open_blocks : goal.decreases-open_blocks
decreases-open_blocks g l = length l.gone.now
