use Rattle.std.proofs.Common.{◌≡◌, take}
use Rattle.op_log.proofs.clones.clone_all.Given as goal

abbrev pub invariant-loop-op : goal.invariant-loop-op
invariant-loop-op l = l.cloned.items ≡ take l.op-index l.operations
