-- The facts of a document that is kept as numbered nodes.
use Rattle.std.specs.Prelude.{◌≡◌, ◌≢◌, ℕ, List, [], Option, Some}
use Rattle.std.specs.Prelude.{option_and_then}
use Rattle.std.specs.Prelude.{slice_index_or, ◌⊎◌, length, false, Contains}
use Rattle.doc_api.specs.Words.{Key, Tagged}
use Rattle.presence_set.specs.ById.{uncovered}
use Rattle.doc_nodes.specs.declared.node.NodeNumber.{NodeNumber}
use Rattle.doc_nodes.specs.declared.node.Node.{Node}
use Rattle.key_map.specs.ByKey.{at_key}
use Rattle.doc_nodes.specs.Walk.{trail, list_trail, walk, root, IsTree}

-- an empty node
abbrev pub blank_node : Node
blank_node =
    record {
      presence = ([], false);
      register = ([], 0);
      counter = ([], false);
      order = ([], 0);
      children = ([], []);
      may_have_present_child = false;
    }

abbrev pub node_of : List Node → NodeNumber → Node
node_of nodes n = slice_index_or nodes n.0 blank_node

abbrev pub child_of : List Node → NodeNumber → Key → Option NodeNumber
child_of nodes n k = at_key (node_of nodes n).children.0 k

-- the node of a place
abbrev pub node_at : List Node → List Tagged → Key → Option NodeNumber
node_at nodes p k = option_and_then (walk (child_of nodes) root) (trail p k)

-- the node whose list a path leads to
abbrev pub list_node_at : List Node → List Tagged → Option NodeNumber
list_node_at nodes p = option_and_then (walk (child_of nodes) root) (list_trail p)

-- the nodes of a tree
abbrev pub AreTree : List Node → Type 0
AreTree nodes = IsTree (child_of nodes) (length nodes)

-- a node without what the front covers
abbrev pub cleared : List (List ℕ × ℕ) → Node → Node
cleared front node =
    record node {
      presence = (uncovered front node.presence.0, node.presence.1);
      register = (uncovered front node.register.0, node.register.1);
      counter = (uncovered front node.counter.0, node.counter.1);
    }

-- the nodes from n down are cleared, and no other
pub record ClearsUnder (front : List (List ℕ × ℕ)) (old new : List Node) (n : NodeNumber) : Type 0 where
  pub each : (j : NodeNumber) → (node_of new j ≡ node_of old j)
      ⊎ (node_of new j ≡ cleared front (node_of old j))
  pub changed : (j : NodeNumber)
      → (node_of new j ≡ node_of old j)
      ⊎ ((keys : List Key) × (walk (child_of old) n keys ≡ Some j))
  pub inside : (j : NodeNumber) (keys : List Key) → walk (child_of old) n keys ≡ Some j
      → node_of new j ≡ cleared front (node_of old j)
  pub outside : (j : NodeNumber) → ((keys : List Key) → walk (child_of old) n keys ≢ Some j)
      → node_of new j ≡ node_of old j

-- each node stays, or is cleared
abbrev pub IsPartCleared : List (List ℕ × ℕ) → List Node → List Node → Type 0
IsPartCleared front old new =
    (j : NodeNumber) → (node_of new j ≡ node_of old j)
    ⊎ (node_of new j ≡ cleared front (node_of old j))

-- a node is cleared, with these children and all below them, and no other that isn't below it
pub record ClearsFirst (front : List (List ℕ × ℕ)) (old new : List Node) (n : NodeNumber)
    (done : List (Key × NodeNumber)) : Type 0 where
  pub each : IsPartCleared front old new
  pub changed : (j : NodeNumber)
      → (node_of new j ≡ node_of old j)
      ⊎ ((keys : List Key) × (walk (child_of old) n keys ≡ Some j))
  pub here : node_of new n ≡ cleared front (node_of old n)
  pub below : (e : Key × NodeNumber) → Contains done e → (j : NodeNumber) (keys : List Key)
      → walk (child_of old) e.1 keys ≡ Some j → node_of new j ≡ cleared front (node_of old j)
  pub outside : (j : NodeNumber) → ((keys : List Key) → walk (child_of old) n keys ≢ Some j)
      → node_of new j ≡ node_of old j
