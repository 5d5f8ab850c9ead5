use Rattle.std.proofs.Common.{length}
use Rattle.doc_nodes.proofs.clear.+clear_below.Given as goal

abbrev pub decreases-clear_below : goal.decreases-clear_below
decreases-clear_below l = length l.way.now
