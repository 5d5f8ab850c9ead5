use Rattle.std.proofs.Common.{length}
use Rattle.doc_nodes.proofs.growth.+prepare_below.Given as goal

abbrev pub decreases-prepare_below : goal.decreases-prepare_below
decreases-prepare_below l = length l.way.now
