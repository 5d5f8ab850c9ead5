use Rattle.std.proofs.Common.{◌≡◌, ◌-◌, drop}
use Rattle.version_vector.specs.Front.{is_ascending}
use Rattle.version_vector.proofs.front.ascends.Given as goal

abbrev pub invariant-loop-i : goal.invariant-loop-i
invariant-loop-i l = is_ascending l.entries ≡ is_ascending (drop (l.i - 1) l.entries)
