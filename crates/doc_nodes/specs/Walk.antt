-- The way to a place, as keys from the root down, and where it leads in a tree of numbered nodes.
use Rattle.std.specs.Prelude.{◌≡◌, ℕ, ◌<◌, List, [], ◌∷◌, Option, Some, None, option_and_then}
use Rattle.std.specs.Prelude.{if◌then◌else◌}
use Rattle.std.specs.Option.{option_map}
use Rattle.doc_api.specs.Words.{Key, Tagged}
use Rattle.op_core.specs.declared.cursor.Key.TheVariants.{Doc}
use Rattle.crdt_rules.specs.Same.{key_eq}
use Rattle.op_core.specs.Shape.{key_of, is_list, may_follow}
use Rattle.doc_nodes.specs.declared.node.NodeNumber.{NodeNumber}

-- the keys on the way from a tagged key down to a place; none where it is no place
abbrev pub trail_below : Tagged → List Tagged → Key → Option (List Key)
trail_below t [] k = if may_follow t k then Some (k ∷ []) else None
trail_below t (s ∷ path) k =
    if may_follow t (key_of s) then option_map
    (λ keys. key_of s ∷ keys) (trail_below s path k) else None

abbrev pub trail : List Tagged → Key → Option (List Key)
trail [] k = if key_eq k Doc then Some [] else None
trail (t ∷ path) k = if key_eq (key_of t) Doc then trail_below t path k else None

-- the keys on the way to the element whose list a path leads to
abbrev pub list_trail_below : Tagged → List Tagged → Option (List Key)
list_trail_below t [] = if is_list t then Some [] else None
list_trail_below t (s ∷ path) =
    if may_follow t (key_of s) then option_map
    (λ keys. key_of s ∷ keys) (list_trail_below s path) else None

abbrev pub list_trail : List Tagged → Option (List Key)
list_trail [] = None
list_trail (t ∷ path) = if key_eq (key_of t) Doc then list_trail_below t path else None

-- the number of the root
abbrev pub root : NodeNumber
root = record { 0 = 0 }

-- the node to which keys lead from another
abbrev pub walk : (NodeNumber → Key → Option NodeNumber) → NodeNumber → List Key → Option NodeNumber
walk child n [] = Some n
walk child n (k ∷ keys) = option_and_then (λ m. walk child m keys) (child n k)

-- The nodes form a tree: a child's number is greater than its parent's and names a node, and no
-- node is the child of two nodes, or at two keys.
pub record IsTree (child : NodeNumber → Key → Option NodeNumber) (size : ℕ) : Type 0 where
  pub rooted : 0 < size
  pub rising : (n : NodeNumber) (k : Key) (c : NodeNumber) → child n k ≡ Some c → n.0 < c.0
  pub within : (n : NodeNumber) (k : Key) (c : NodeNumber) → child n k ≡ Some c → c.0 < size
  pub unique : (n m : NodeNumber) (k j : Key) (c : NodeNumber) → child n k ≡ Some c
      → child m j ≡ Some c
      → (n ≡ m) × (k ≡ j)
