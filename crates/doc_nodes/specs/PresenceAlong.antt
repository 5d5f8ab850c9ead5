-- An operation makes the node where it ends present, and those above it.
use Rattle.std.specs.Prelude.{◌≡◌, ◌≢◌, ◌⊎◌, ◌<◌, List, [], ◌∷◌, ◌++◌, length, map, Some, ◌&&◌}
use Rattle.std.specs.Prelude.{◌||◌, IsSome, Bool}
use Rattle.std.specs.Prelude.{true, false}
use Rattle.doc_api.specs.Words.{Id, Key, Tagged}
use Rattle.op_core.specs.Shape.{key_of}
use Rattle.doc_api.specs.declared.role.Role.{Role}
use Rattle.doc_api.specs.declared.role.Role.TheVariants.{Through}
use Rattle.presence_set.specs.ById.{put_at_id}
use Rattle.doc_nodes.specs.declared.node.NodeNumber.{NodeNumber}
use Rattle.doc_nodes.specs.declared.node.Node.{Node}
use Rattle.doc_nodes.specs.Walk.{walk}
use Rattle.doc_nodes.specs.Nodes.{node_of, child_of, AreTree}
use Rattle.doc_nodes.specs.ListPresence.{is_some_entry}

-- an operation in this role goes on to a child
abbrev pub passes : Role → Bool
passes Through = true
passes _ = false

-- whether a child may be present after an operation in a role: if it may be
-- before, while the node is present
abbrev pub may_have_present_child_after : Role → Node → Bool
may_have_present_child_after role node = passes role
    || (node.may_have_present_child && is_some_entry node.presence.0)

-- a node that an operation makes present, in a role; it takes the room that was made for it
abbrev pub made_present : Id → Role → Node → Node
made_present id role node =
    record node {
      presence = (put_at_id node.presence.0 id role, false);
      may_have_present_child = may_have_present_child_after role node;
    }

-- the role in a node from which keys still lead on
abbrev pub role_before : List Key → Role → Role
role_before [] role = role
role_before (k ∷ keys) role = Through

-- the keys on the way down to a place
abbrev pub keys_below : List Tagged → Key → List Key
keys_below [] k = k ∷ []
keys_below (s ∷ way) k = key_of s ∷ keys_below way k

abbrev pub keys_to : List Tagged → Key → List Key
keys_to [] k = []
keys_to (t ∷ way) k = keys_below way k

-- the keys on the way to the node above a place, and to the root if the place is the root
abbrev pub keys_above : List Tagged → List Key
keys_above [] = []
keys_above (t ∷ way) = map key_of way

-- there is room for one more id in the presence of each node on the way
abbrev pub HasRoomAlong : List Node → NodeNumber → List Key → Type 0
HasRoomAlong nodes n keys =
    (front rest : List Key) (j : NodeNumber) → keys ≡ front ++ rest
    → walk (child_of nodes) n front ≡ Some j
    → (node_of nodes j).presence.1 ≡ true

-- the nodes on the way from n by the keys are made present, and no other
pub record AddsPresenceAlong (id : Id) (role : Role) (old new : List Node) (n : NodeNumber)
    (keys : List Key) : Type 0 where
  pub along : (front rest : List Key) (j : NodeNumber) → keys ≡ front ++ rest
      → walk (child_of old) n front ≡ Some j
      → node_of new j ≡ made_present id (role_before rest role) (node_of old j)
  pub outside : (j : NodeNumber)
      → ((front rest : List Key) → keys ≡ front ++ rest → walk (child_of old) n front ≢ Some j)
      → node_of new j ≡ node_of old j
  pub changed : (j : NodeNumber) → (node_of new j ≡ node_of old j)
      ⊎ ((front : List Key) × (rest : List Key) × (keys ≡ front ++ rest) × (walk (child_of old) n front ≡ Some j))
  pub shape : child_of new ≡ child_of old
  pub kept : (j : NodeNumber) → ((node_of new j).register ≡ (node_of old j).register)
      × ((node_of new j).counter ≡ (node_of old j).counter)
      × ((node_of new j).order ≡ (node_of old j).order)

-- what making the nodes on the way from n present needs
pub record IsReady (nodes : List Node) (n : NodeNumber) (keys : List Key) : Type 0 where
  pub tree : AreTree nodes
  pub within : n.0 < length nodes
  pub reached : IsSome (walk (child_of nodes) n keys)
  pub room : HasRoomAlong nodes n keys
