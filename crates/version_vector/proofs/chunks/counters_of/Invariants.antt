use Rattle.std.proofs.Common.{◌≡◌, ℕ, ◌+◌, ◌-◌, ◌≤◌, List, length, map, take, vec_len, vec_capacity}
use Rattle.version_vector.proofs.chunks.counters_of.Given as goal

abbrev pub invariant-loop-pair : goal.invariant-loop-pair
invariant-loop-pair l = record {
  counters : l.counters.items ≡ map (λ (e : List ℕ × ℕ). e.1) (take l.pair-index l.pairs);
  room : vec_len l.counters + (length l.pairs - l.pair-index) ≤ vec_capacity l.counters;
}
