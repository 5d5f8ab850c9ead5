-- A new tree has the facts of the empty log, and no present id.
use Rattle.std.proofs.Common.{◌≡◌, [], refl}
use Rattle.crdt_rules.specs.Context.{empty}
use Rattle.crdt_rules.specs.Facts.{facts}
use Rattle.doc_tree.specs.Nodes.{TreeValue}
use Rattle.doc_tree.specs.Facts.{facts_of}
use Rattle.doc_tree.specs.Nodes.{tree_facts, tree_role}
use Rattle.doc_rules.specs.Role.{AreOf}
use Rattle.doc_rules.proofs.Roles.{are_of_new}

-- the tree of the empty document
pub new_tree : (tree : TreeValue) → tree_facts tree ≡ facts empty → AreOf [] (tree_facts tree) (tree_role tree)
unfolding facts_of
new_tree tree is = are_of_new is (λ p k i. refl)
