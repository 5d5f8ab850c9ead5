use Rattle.std.specs.Arc.{arc_slice_items}
use Rattle.version_vector.proofs.InChunks.{clones_keep}
use Rattle.version_vector.proofs.chunks.cloned.Goals as goal

pub returns-clause-ok : goal.returns-clause-ok
returns-clause-ok c = clones_keep arc_slice_items c.args.chunks.now.items c.in_ok-clone.field-0.items c.in_ok-clone.ensures.cases.0
