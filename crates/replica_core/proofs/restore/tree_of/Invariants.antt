use Rattle.std.proofs.Common.{take}
use Rattle.replica_core.specs.AgreesWith.{AgreesWith}
use Rattle.replica_core.proofs.restore.tree_of.Given as goal

abbrev pub invariant-loop-place : goal.invariant-loop-place
invariant-loop-place l = AgreesWith l.tree (take l.place l.log.operations)
