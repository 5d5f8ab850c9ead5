use Rattle.std.proofs.Common.{◌≡◌, length, map}
use Rattle.std.specs.Arc.{arc_slice_items}
use Rattle.version_vector.proofs.chunks.share_chunks.Given as goal

abbrev pub invariant-loop-at : goal.invariant-loop-at
invariant-loop-at l = record {
  same : map arc_slice_items l.chunks.items ≡ map arc_slice_items l.fn.chunks.items;
  len : length l.chunks.items ≡ length l.fn.chunks.items;
}
