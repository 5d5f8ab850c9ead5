-- Each list stores with each of its elements whether the element is present.
use Rattle.std.specs.Prelude.{◌≡◌, ◌≢◌, ◌⊎◌, ℕ, List, [], ◌∷◌, map, Bool, true, false, Option, Some}
use Rattle.std.specs.Prelude.{None, Contains}
use Rattle.std.specs.Prelude.{slice_index_or, slice_set}
use Rattle.lamport_id.specs.declared.id.Id.{Id}
use Rattle.op_core.specs.declared.cursor.Key.{Key}
use Rattle.op_core.specs.declared.cursor.Key.TheVariants.{Element}
use Rattle.doc_api.specs.declared.role.Role.{Role}
use Rattle.list_order.specs.Entries.{with_presence, all_absent}
use Rattle.doc_nodes.specs.declared.node.NodeNumber.{NodeNumber}
use Rattle.doc_nodes.specs.declared.node.Node.{Node}
use Rattle.key_map.specs.Blocks.{joined}
use Rattle.doc_nodes.specs.Nodes.{node_of, child_of}

-- a list has an element
abbrev pub is_some_entry : List (Id × Role) → Bool
is_some_entry [] = false
is_some_entry (e ∷ entries) = true

-- something makes a node present, if there is one
abbrev pub is_node_present : List Node → Option NodeNumber → Bool
is_node_present nodes None = false
is_node_present nodes (Some c) = is_some_entry (node_of nodes c).presence.0

-- a node whose list stores anew whether an element is present
abbrev pub with_element_presence : Id → Bool → Node → Node
with_element_presence id is node = record node { order = (with_presence node.order.0 id is, node.order.1) }

-- the list of a node stores anew whether the node of an element is present
abbrev pub with_list_presence : List Node → NodeNumber → Option Id → NodeNumber → List Node
with_list_presence nodes at None child = nodes
with_list_presence nodes at (Some id) child =
    slice_set nodes at.0 (with_element_presence id (is_node_present nodes (Some child)) (node_of nodes at))

-- a node with other blocks of children that aren't gone
abbrev pub with_blocks : List (List (Key × NodeNumber)) → Node → Node
with_blocks blocks node = record node { children = (node.children.0, blocks) }

-- a node whose list shows no element as present, and that has no block of children that isn't gone
abbrev pub without_list_presence : Node → Node
without_list_presence node =
    record node { order = (all_absent node.order.0, node.order.1); children = (node.children.0, []) }

-- the nodes, with lists that show no element as present, and nothing said of which children are
abbrev pub plain : List Node → List Node
plain nodes = map without_list_presence nodes

-- the list of a node shows of an element whether the element's node is present
abbrev pub ShowsPresence : List Node → NodeNumber → Id → Type 0
ShowsPresence nodes n i =
    (is : Bool) → Contains (node_of nodes n).order.0 (i, is)
    → is ≡ is_node_present nodes (child_of nodes n (Element i))

-- the element's node is this one, or the list shows whether it is present
abbrev pub ShowsPresenceBut : List Node → NodeNumber → NodeNumber → Id → Type 0
ShowsPresenceBut nodes m n i = (child_of nodes n (Element i) ≡ Some m) ⊎ ShowsPresence nodes n i

-- the children of a node that may be present: those in blocks that aren't gone
abbrev pub candidates : Node → List (Key × NodeNumber)
candidates node = joined node.children.1

-- the child at a key, if it is present, is one of them
abbrev pub IsCandidate : List Node → NodeNumber → Key → Type 0
IsCandidate nodes n k =
    (c : NodeNumber) → child_of nodes n k ≡ Some c → is_node_present nodes (Some c) ≡ true
    → Contains (candidates (node_of nodes n)) (k, c)

-- the child at a key is this one, or a candidate if it is present
abbrev pub IsCandidateBut : List Node → NodeNumber → NodeNumber → Key → Type 0
IsCandidateBut nodes m n k = (child_of nodes n k ≡ Some m) ⊎ IsCandidate nodes n k

-- each child that is present is one of those that may be
abbrev pub HaveCandidates : List Node → Type 0
HaveCandidates nodes = (n : NodeNumber) (k : Key) → IsCandidate nodes n k

-- the lists show which of their elements are present, and blocks of children
-- without a present one alone are gone
abbrev pub ListsShowPresence : List Node → Type 0
ListsShowPresence nodes = ((n : NodeNumber) (i : Id) → ShowsPresence nodes n i)
    × HaveCandidates nodes

-- but for the element of one node
abbrev pub ListsShowPresenceBut : List Node → NodeNumber → Type 0
ListsShowPresenceBut nodes m = ((n : NodeNumber) (i : Id) → ShowsPresenceBut nodes m n i)
    × HaveCandidates nodes

-- at one node other blocks of children aren't gone
pub record ChangesBlocks (old new : List Node) (at : NodeNumber) : Type 0 where
  pub blocks : List (List (Key × NodeNumber))
  pub is : new ≡ slice_set old at.0 (with_blocks blocks (node_of old at))

-- of the old ones none is gone, nor is that of the child at a key
pub record KeepsBlocks (old new : List Node) (at : NodeNumber) (key : Key) : Type 0 where
  pub changes : ChangesBlocks old new at
  pub kept : (e : Key × NodeNumber) → Contains (candidates (node_of old at)) e
      → Contains (joined changes.blocks) e
  pub noted : (c : NodeNumber) → child_of old at key ≡ Some c
      → Contains (joined changes.blocks) (key, c)

-- at most one of the old ones is gone, and only if none of its children is present
pub record MayDropBlock (old new : List Node) (at : NodeNumber) (block : ℕ) : Type 0 where
  pub changes : ChangesBlocks old new at
  pub others : (m : ℕ) → m ≢ block
      → slice_index_or changes.blocks m [] ≡ slice_index_or (node_of old at).children.1 m []
  pub kept : (e : Key × NodeNumber) → Contains (candidates (node_of old at)) e
      → is_node_present old (Some e.1) ≡ true → Contains (joined changes.blocks) e
