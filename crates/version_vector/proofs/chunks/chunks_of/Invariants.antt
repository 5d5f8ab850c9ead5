use Rattle.std.proofs.Common.{◌≡◌, ℕ, List, true, ◌++◌, length, map}
use Rattle.std.specs.Arc.{arc_slice_items}
use Rattle.std.specs.List.{concat, list_all}
use Rattle.version_vector.specs.Chunks.{is_full}
use Rattle.version_vector.proofs.chunks.chunks_of.Given as goal

abbrev pub invariant-loop-rest : goal.invariant-loop-rest
invariant-loop-rest l = record {
  joined : concat (map arc_slice_items l.chunks.items) ++ map (λ (e : List ℕ × ℕ). e.1) l.rest ≡ map (λ (e : List ℕ × ℕ). e.1) l.pairs;
  full : list_all is_full (map arc_slice_items l.chunks.items) ≡ true;
}

abbrev pub decreases-loop-rest : goal.decreases-loop-rest
decreases-loop-rest l = length l.rest
