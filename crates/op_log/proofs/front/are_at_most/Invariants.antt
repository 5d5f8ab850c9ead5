use Rattle.std.proofs.Common.{◌≡◌, drop}
use Rattle.std.specs.List.{zip}
use Rattle.version_vector.specs.Front.{is_le}
use Rattle.op_log.proofs.front.are_at_most.Given as goal

abbrev pub invariant-loop-at : goal.invariant-loop-at
invariant-loop-at l = is_le (drop l.first (zip l.names l.counters)) (drop l.at (zip l.others l.reached)) ≡ is_le (zip l.names l.counters) (zip l.others l.reached)
