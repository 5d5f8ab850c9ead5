use Rattle.doc_view.proofs.Growing.{new_tree}
use Rattle.replica_core.proofs.restore.tree_of.Goals as goal

pub loop-place-init : goal.loop-place-init
loop-place-init c = new_tree c.in_ok-tree.tree c.in_ok-tree.ensures.ok
