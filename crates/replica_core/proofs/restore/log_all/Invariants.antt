use Rattle.std.proofs.Common.{◌≡◌, take}
use Rattle.replica_core.specs.AgreesWith.{AgreesWith}
use Rattle.replica_core.proofs.restore.log_all.Given as goal

abbrev pub invariant-loop-place : goal.invariant-loop-place
invariant-loop-place l = (l.log.operations ≡ take l.place l.operations) × AgreesWith l.tree l.log.operations
