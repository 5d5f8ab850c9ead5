use Rattle.std.proofs.Common.{◌≡◌, max, map, drop}
use Rattle.std.specs.Arc.{arc_slice_items}
use Rattle.std.specs.List.{concat}
use Rattle.version_vector.specs.Front.{greatest}
use Rattle.version_vector.proofs.chunks.greatest_of_all.Given as goal

abbrev pub invariant-loop-chunk : goal.invariant-loop-chunk
invariant-loop-chunk l =
    max l.most (greatest (concat (map arc_slice_items (drop l.chunk-index l.chunks)))) ≡ greatest (concat (map arc_slice_items l.chunks))
