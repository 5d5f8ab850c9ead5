use Rattle.std.proofs.Common.{◌≡◌, ℕ, ◌+◌, ◌-◌, ◌≤◌, List, length, map, take, vec_len, vec_capacity}
use Rattle.version_vector.proofs.front.names_of.Given as goal

abbrev pub invariant-loop-pair : goal.invariant-loop-pair
invariant-loop-pair l = record {
  names : l.names.items ≡ map (λ (e : List ℕ × ℕ). e.0) (take l.pair-index l.pairs);
  room : vec_len l.names + (length l.pairs - l.pair-index) ≤ vec_capacity l.names;
}
