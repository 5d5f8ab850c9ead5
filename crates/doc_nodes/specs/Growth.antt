-- Growth of the nodes that changes no fact.
use Rattle.std.specs.Prelude.{◌≡◌, ◌<◌, ◌≤◌, List, [], ◌∷◌, ◌++◌, length, insert, slice_set, Some}
use Rattle.std.specs.Prelude.{IsSome, Contains}
use Rattle.std.specs.Prelude.{ℕ, true, unwrap_or, option_map}
use Rattle.op_core.specs.declared.cursor.Key.{Key}
use Rattle.doc_nodes.specs.declared.node.NodeNumber.{NodeNumber}
use Rattle.doc_nodes.specs.declared.node.Node.{Node}
use Rattle.key_map.specs.KeyOrder.{key_rank}
use Rattle.key_map.specs.Blocks.{joined}
use Rattle.doc_nodes.specs.Walk.{walk}
use Rattle.doc_nodes.specs.Nodes.{node_of, child_of}
use Rattle.doc_nodes.specs.PresenceAlong.{HasRoomAlong}

-- the new nodes hold what the old ones did, with no less room; there may
-- be more of them, which are empty
pub record Grows (old new : List Node) : Type 0 where
  pub size : length old ≤ length new
  pub presence : (n : NodeNumber) → (node_of new n).presence.0 ≡ (node_of old n).presence.0
  pub register : (n : NodeNumber) → (node_of new n).register.0 ≡ (node_of old n).register.0
  pub counter : (n : NodeNumber) → (node_of new n).counter.0 ≡ (node_of old n).counter.0
  pub order : (n : NodeNumber) → (node_of new n).order.0 ≡ (node_of old n).order.0
  pub candidates : (n : NodeNumber) (e : Key × NodeNumber)
      → Contains (joined (node_of old n).children.1) e
      → Contains (joined (node_of new n).children.1) e
  pub may_have_present_child : (n : NodeNumber)
      → (node_of new n).may_have_present_child ≡ (node_of old n).may_have_present_child
  pub presence_room : (n : NodeNumber) → (node_of old n).presence.1 ≡ true
      → (node_of new n).presence.1 ≡ true
  pub register_room : (n : NodeNumber) → (node_of old n).register.1 ≤ (node_of new n).register.1
  pub counter_room : (n : NodeNumber) → (node_of old n).counter.1 ≡ true
      → (node_of new n).counter.1 ≡ true
  pub order_room : (n : NodeNumber) → (node_of old n).order.1 ≤ (node_of new n).order.1
  pub forward : (n : NodeNumber) (k : Key) (c : NodeNumber) → child_of old n k ≡ Some c
      → child_of new n k ≡ Some c
  pub back : (n : NodeNumber) (k : Key) (c : NodeNumber) → child_of new n k ≡ Some c
      → c.0 < length old
      → child_of old n k ≡ Some c

-- keys lead on from a node, with room on the way
pub record IsMade (nodes : List Node) (n : NodeNumber) (keys : List Key) : Type 0 where
  pub reached : IsSome (walk (child_of nodes) n keys)
  pub room : HasRoomAlong nodes n keys

-- how many of the keys lead to no node yet
abbrev pub missing_along : List Node → NodeNumber → List Key → ℕ
missing_along nodes n [] = 0
missing_along nodes n (k ∷ keys) =
    unwrap_or (option_map (λ m. missing_along nodes m keys) (child_of nodes n k)) (length (k ∷ keys))

-- a node with one more child, and these blocks that aren't gone
abbrev pub with_child : Key → NodeNumber → List (List (Key × NodeNumber)) → Node → Node
with_child k c blocks node =
    record node { children = (insert node.children.0 (key_rank node.children.0 k) (k, c), blocks) }

-- one more node is the child of another
pub record AddsChild (old new : List Node) (n : NodeNumber) (k : Key) (fresh : Node) : Type 0 where
  pub blocks : List (List (Key × NodeNumber))
  pub kept : (e : Key × NodeNumber) → Contains (joined (node_of old n).children.1) e
      → Contains (joined blocks) e
  pub is : new ≡ slice_set old n.0 (with_child k (record { 0 = length old }) blocks (node_of old n))
      ++ fresh ∷ []

-- at one node other blocks of children aren't gone, and all that weren't
pub record ChangesBlocksOnly (old new : List Node) (n : NodeNumber) : Type 0 where
  pub blocks : List (List (Key × NodeNumber))
  pub kept : (e : Key × NodeNumber) → Contains (joined (node_of old n).children.1) e
      → Contains (joined blocks) e
  pub is : new
      ≡ slice_set old n.0 (record (node_of old n) { children = ((node_of old n).children.0, blocks) })
