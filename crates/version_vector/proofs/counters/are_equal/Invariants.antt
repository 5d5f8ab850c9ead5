use Rattle.std.proofs.Common.{◌≡◌, nat_eq, drop}
use Rattle.std.specs.Cmp.Lexicographic.{pointwise}
use Rattle.version_vector.proofs.counters.are_equal.Given as goal

abbrev pub invariant-loop-at : goal.invariant-loop-at
invariant-loop-at l = pointwise nat_eq (drop l.at l.a) (drop l.at l.b) ≡ pointwise nat_eq l.a l.b
