-- When the tree has all that an operation needs.
use Rattle.std.specs.Prelude.{◌≡◌, ◌<◌, List, length, Bool, true, false, Some, IsSome, Contains}
use Rattle.std.specs.Option.{ForSome}
use Rattle.doc_api.specs.Words.{Key, Tagged, Op}
use Rattle.crdt_rules.specs.Effect.{is_add, is_delete, is_insertion, scalar_put, path_of, end_key}
use Rattle.crdt_rules.specs.Context.{reference}
use Rattle.crdt_rules.specs.Facts.{Facts}
use Rattle.doc_nodes.specs.declared.node.NodeNumber.{NodeNumber}
use Rattle.doc_nodes.specs.declared.node.Node.{Node}
use Rattle.doc_nodes.specs.declared.node.PlaceNodes.{PlaceNodes}
use Rattle.doc_nodes.specs.Walk.{root, trail, list_trail}
use Rattle.doc_nodes.specs.Nodes.{node_of, node_at, list_node_at}
use Rattle.doc_nodes.specs.PresenceAlong.{keys_to, HasRoomAlong}
use Rattle.doc_tree.specs.Nodes.{TreeValue}

-- a place has a node, with room for one more id on the way, and at the end for one more
-- number, or for one more scalar
pub record IsReadyFor (nodes : List Node) (p : List Tagged) (k : Key) (adds : Bool) : Type 0 where
  pub found : IsSome (node_at nodes p k)
  pub along : HasRoomAlong nodes root (keys_to p k)
  pub register : adds ≡ false → (m : NodeNumber) → node_at nodes p k ≡ Some m
      → length (node_of nodes m).register.0 < (node_of nodes m).register.1
  pub counter : adds ≡ true → (m : NodeNumber) → node_at nodes p k ≡ Some m
      → (node_of nodes m).counter.1 ≡ true

-- a list has a node, with room for one more id
pub record IsReadyList (nodes : List Node) (p : List Tagged) : Type 0 where
  pub found : IsSome (list_node_at nodes p)
  pub room : (n : NodeNumber) → list_node_at nodes p ≡ Some n
      → length (node_of nodes n).order.0 < (node_of nodes n).order.1

-- the nodes have what an operation needs, and these are the node where it ends and, for an
-- insertion, that of its list; a delete needs nothing
pub record AreReady (nodes : List Node) (place : PlaceNodes) (op : Op) : Type 0 where
  pub room : is_delete op.mutation ≡ false
      → IsReadyFor nodes (path_of op) (end_key op) (is_add op.mutation)
  pub list_room : is_insertion op.mutation ≡ true → IsReadyList nodes (path_of op)
  pub node : is_delete op.mutation ≡ false
      → node_at nodes (path_of op) (end_key op) ≡ Some place.node
  pub list : is_insertion op.mutation ≡ true → list_node_at nodes (path_of op) ≡ Some place.above

-- so does the tree, which keeps these nodes and a clone of the operation's scalar
pub record IsPrepared (tree : TreeValue) (op : Op) : Type 0 where
  pub nodes : AreReady tree.0 tree.1.place op
  pub scalar : tree.1.scalar ≡ scalar_put op.mutation

-- an insertion comes after the head or an element of its list
abbrev pub KnowsReference : Facts → Op → Type 0
KnowsReference f op =
    is_insertion op.mutation ≡ true
    → ForSome (reference op.cursor.key) (Contains (f.order (path_of op)))

-- the id of an insertion is new in its list
abbrev pub IsNewElement : Facts → Op → Type 0
IsNewElement f op = is_insertion op.mutation ≡ true → ¬ (Contains (f.order (path_of op)) op.id)

-- an operation ends at a place, and an insertion in a list
pub record HasPlace (op : Op) : Type 0 where
  pub place : IsSome (trail (path_of op) (end_key op))
  pub list : is_insertion op.mutation ≡ true → IsSome (list_trail (path_of op))
