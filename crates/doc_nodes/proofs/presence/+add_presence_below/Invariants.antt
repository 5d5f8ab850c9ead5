use Rattle.std.proofs.Common.{length}
use Rattle.doc_nodes.proofs.presence.+add_presence_below.Given as goal

abbrev pub decreases-add_presence_below : goal.decreases-add_presence_below
decreases-add_presence_below l = length l.way.now
