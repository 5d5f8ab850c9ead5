use Rattle.std.proofs.Common.{length}
use Rattle.doc_nodes.proofs.finding.+find_list_below.Given as goal

abbrev pub decreases-find_list_below : goal.decreases-find_list_below
decreases-find_list_below l = length l.way.now
