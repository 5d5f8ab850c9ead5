use Rattle.std.proofs.Common.{ap, ◌∙◌}
use Rattle.std.specs.Arc.{arc_slice_items}
use Rattle.std.proofs.Math.Seq.{map-set_same}
use Rattle.std.proofs.lemmas.List.{length-set}
use Rattle.version_vector.proofs.chunks.share_chunks.Goals as goal

pub loop-at-preserved : goal.loop-at-preserved
loop-at-preserved c =
    let items = c.loop-at.chunks.items in
    let at = c.loop-at.at in
    let chunk = c.share_chunk.new.chunk in
    record {
      same =
          map-set_same arc_slice_items items at chunk c.index_mut.result.now (c.share_chunk.ensures ∙ ap arc_slice_items c.index_mut.ensures.value)
          ∙ c.loop-at.invariant.same;
      len = length-set items at chunk ∙ c.loop-at.invariant.len;
    }
