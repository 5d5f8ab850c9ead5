use Rattle.std.proofs.Common.{length}
use Rattle.doc_nodes.proofs.finding.+find_below.Given as goal

abbrev pub decreases-find_below : goal.decreases-find_below
decreases-find_below l = length l.way.now
