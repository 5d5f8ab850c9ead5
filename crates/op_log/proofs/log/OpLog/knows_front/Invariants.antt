use Rattle.std.proofs.Common.{◌≡◌, drop}
use Rattle.std.specs.List.{list_all}
use Rattle.op_log.specs.Known.{is_pair_known}
use Rattle.op_log.proofs.log.OpLog.knows_front.Given as goal

abbrev pub invariant-loop-at : goal.invariant-loop-at
invariant-loop-at l = list_all (is_pair_known l.front l.self.operations) (drop l.at l.front) ≡ list_all (is_pair_known l.front l.self.operations) l.front
