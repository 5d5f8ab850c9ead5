use Rattle.std.proofs.Common.{◌≡◌, drop}
use Rattle.version_vector.specs.Front.{is_le}
use Rattle.version_vector.proofs.front.covers_all.Given as goal

abbrev pub invariant-loop-at : goal.invariant-loop-at
invariant-loop-at l = is_le (drop l.at l.other) l.front ≡ is_le l.other l.front
