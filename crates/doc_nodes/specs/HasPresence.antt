-- Each operation that put a value into a node makes the node present, and the nodes above it too.
use Rattle.std.specs.Prelude.{◌≡◌, ℕ, ◌≤◌, List, true, Some, is_some}
use Rattle.doc_api.specs.Words.{Id, Key}
use Rattle.presence_set.specs.ById.{get}
use Rattle.doc_nodes.specs.declared.node.NodeNumber.{NodeNumber}
use Rattle.doc_nodes.specs.declared.node.Node.{Node}
use Rattle.doc_nodes.specs.Nodes.{node_of, child_of}

-- there is an entry at an id
abbrev pub HasEntry : {X : Type 0} → List (Id × X) → Id → Type 0
HasEntry entries i = is_some (get entries i) ≡ true

-- an operation makes a node present
abbrev pub IsPresentBy : Node → Id → Type 0
IsPresentBy node i = HasEntry node.presence.0 i

-- each operation that put a scalar or a number into a node makes the node present
pub record HasPresence (node : Node) : Type 0 where
  pub register : (i : Id) → HasEntry node.register.0 i → IsPresentBy node i
  pub counter : (i : Id) → HasEntry node.counter.0 i → IsPresentBy node i

-- Each node has its presence. For each parent whose number is m or greater: an operation that makes
-- a child present makes the parent present, which then may have a present child.
pub record HavePresenceFrom (nodes : List Node) (m : ℕ) : Type 0 where
  pub each : (n : NodeNumber) → HasPresence (node_of nodes n)
  pub above : (n : NodeNumber) (k : Key) (c : NodeNumber) (i : Id) → m ≤ n.0
      → child_of nodes n k ≡ Some c
      → IsPresentBy (node_of nodes c) i → IsPresentBy (node_of nodes n) i
  pub may_have_present_child : (n : NodeNumber) (k : Key) (c : NodeNumber) (i : Id) → m ≤ n.0
      → child_of nodes n k ≡ Some c → IsPresentBy (node_of nodes c) i
      → (node_of nodes n).may_have_present_child ≡ true

-- each node has its presence, and each parent that of its children
abbrev pub HavePresence : List Node → Type 0
HavePresence nodes = HavePresenceFrom nodes 0
