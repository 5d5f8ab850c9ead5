use Rattle.std.proofs.Common.{length}
use Rattle.doc_nodes.proofs.list_presence.+is_any_present.Given as goal

abbrev pub decreases-is_any_present : goal.decreases-is_any_present
decreases-is_any_present l = length l.children.now
