-- What clauses see of the tree of a document.
use Rattle.std.specs.Prelude.{List, [], ◌∷◌, Option, None, Bool, option_and_then}
use Rattle.doc_api.specs.Words.{Id, Key, Tagged}
use Rattle.crdt_rules.specs.Facts.{Facts}
use Rattle.doc_api.specs.declared.role.Role.{Role}
use Rattle.doc_nodes.specs.declared.node.Node.{Node}
use Rattle.doc_nodes.specs.declared.node.NodeNumber.{NodeNumber}
use Rattle.doc_nodes.specs.Walk.{list_trail_below, walk}
use Rattle.doc_nodes.specs.Nodes.{child_of, node_at, list_node_at}
use Rattle.doc_tree.specs.Facts.{facts_of, role_at}
use Rattle.doc_nodes.specs.ListPresence.{is_node_present}
use Rattle.doc_tree.specs.declared.tree.Prepared.{Prepared}

-- the nodes of a tree, and what it keeps for the operation that it is prepared for
abbrev pub TreeValue : Type 0
TreeValue = List Node × Prepared

-- the facts of a tree
abbrev pub tree_facts : TreeValue → Facts
tree_facts tree = facts_of tree.0

abbrev pub tree_role : TreeValue → List Tagged → Key → Id → Option Role
tree_role tree = role_at tree.0

-- the number of the node of a place
abbrev pub tree_number : TreeValue → List Tagged → Key → Option NodeNumber
tree_number tree = node_at tree.0

-- the number of the node whose list a path leads to
abbrev pub tree_list : TreeValue → List Tagged → Option NodeNumber
tree_list tree = list_node_at tree.0

-- the number of the node whose list a way from a node on leads to: it
-- begins with the node's own key
abbrev pub tree_list_below : TreeValue → NodeNumber → List Tagged → Option NodeNumber
tree_list_below tree at [] = None
tree_list_below tree at (t ∷ way) = option_and_then (walk (child_of tree.0) at) (list_trail_below t way)

-- whether a place is present
abbrev pub tree_present : TreeValue → List Tagged → Key → Bool
tree_present tree p k = is_node_present tree.0 (node_at tree.0 p k)
