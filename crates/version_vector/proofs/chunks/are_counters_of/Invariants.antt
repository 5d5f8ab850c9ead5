use Rattle.std.proofs.Common.{◌≡◌, ℕ, List, map, take}
use Rattle.version_vector.proofs.chunks.are_counters_of.Given as goal

abbrev pub invariant-loop-at : goal.invariant-loop-at
invariant-loop-at l = take l.at l.counters ≡ take l.at (map (λ (e : List ℕ × ℕ). e.1) l.pairs)
