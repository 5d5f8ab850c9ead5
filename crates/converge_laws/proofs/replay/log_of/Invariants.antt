use Rattle.std.proofs.Common.{◌≡◌, take}
use Rattle.crdt_rules.specs.Log.{IsGood}
use Rattle.converge_laws.proofs.replay.log_of.Given as goal

abbrev pub invariant-loop-i : goal.invariant-loop-i
invariant-loop-i l = (l.log.operations ≡ take l.i l.ops) × IsGood (take l.i l.ops)
