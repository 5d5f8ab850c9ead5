-- The list at the end of a path, from the node of one of its keys on.
use Rattle.std.proofs.Common.{◌≡◌, List, [], ◌∷◌, ◌++◌, Bool, true, false, Option, Some, None, if◌then◌else◌, refl, sym, ap, ◌∙◌}
use Rattle.std.specs.Prelude.{option_and_then}
use Rattle.std.specs.Option.{option_map}
use Rattle.doc_api.specs.Words.{Key, Tagged}
use Rattle.op_core.specs.declared.cursor.Key.TheVariants.{Doc}
use Rattle.op_core.specs.declared.cursor.Tagged.TheVariants.{Map as MapAt, List as ListAt}
use Rattle.op_core.specs.Shape.{key_of, is_list, may_follow}
use Rattle.crdt_rules.specs.Same.{key_eq}
use Rattle.doc_nodes.specs.declared.node.NodeNumber.{NodeNumber}
use Rattle.doc_nodes.specs.declared.node.Node.{Node}
use Rattle.doc_nodes.specs.Walk.{trail, trail_below, list_trail, list_trail_below, walk, root}
use Rattle.doc_nodes.specs.Nodes.{child_of, node_at, list_node_at}
use Rattle.doc_nodes.proofs.Walks.{parts_of, walk-append}
use Rattle.doc_tree.proofs.Below.{list-into}

-- the way that is one way and then another
abbrev joined_ways : Option (List Key) → Option (List Key) → Option (List Key)
joined_ways first second = option_and_then (λ front. option_map (λ keys. front ++ keys) second) first

-- the way to a list goes by each key of the path
list_trail_below-by : (s : Tagged) (p : List Tagged) (t : Tagged) (way : List Tagged)
    → list_trail_below s (p ++ t ∷ way) ≡ joined_ways (trail_below s p (key_of t)) (list_trail_below t way)
list_trail_below-by s [] t way = go (may_follow s (key_of t))
  where
    go : (b : Bool)
        → ◌≡◌ {A = Option (List Key)} (if b then option_map (λ keys. key_of t ∷ keys) (list_trail_below t way) else None)
        (joined_ways (if◌then◌else◌ {A = Option (List Key)} b (Some (key_of t ∷ [])) None) (list_trail_below t way))
    go true = refl
    go false = refl
list_trail_below-by s (r ∷ p) t way = go (may_follow s (key_of r)) (trail_below r p (key_of t)) (list_trail_below t way) (list_trail_below-by r p t way)
  where
    go : (b : Bool) (o q : Option (List Key)) {l : Option (List Key)} → l ≡ joined_ways o q
        → ◌≡◌ {A = Option (List Key)} (if b then option_map (λ keys. key_of r ∷ keys) l else None)
        (joined_ways (if◌then◌else◌ {A = Option (List Key)} b (option_map (λ keys. key_of r ∷ keys) o) None) q)
    go false o q e = refl
    go true None q e = ap (option_map (λ keys. key_of r ∷ keys)) e
    go true (Some front) None e = ap (option_map (λ keys. key_of r ∷ keys)) e
    go true (Some front) (Some back) e = ap (option_map (λ keys. key_of r ∷ keys)) e

list_trail-by : (p : List Tagged) (t : Tagged) (way : List Tagged)
    → list_trail (p ++ t ∷ way) ≡ joined_ways (trail p (key_of t)) (list_trail_below t way)
list_trail-by [] t way = go (key_eq (key_of t) Doc) (list_trail_below t way)
  where
    go : (b : Bool) (q : Option (List Key))
        → ◌≡◌ {A = Option (List Key)} (if b then q else None) (joined_ways (if◌then◌else◌ {A = Option (List Key)} b (Some []) None) q)
    go true None = refl
    go true (Some back) = refl
    go false q = refl
list_trail-by (r ∷ p) t way = go (key_eq (key_of r) Doc) (list_trail_below-by r p t way)
  where
    go : (b : Bool) → list_trail_below r (p ++ t ∷ way) ≡ joined_ways (trail_below r p (key_of t)) (list_trail_below t way)
        → ◌≡◌ {A = Option (List Key)} (if b then list_trail_below r (p ++ t ∷ way) else None)
        (joined_ways (if◌then◌else◌ {A = Option (List Key)} b (trail_below r p (key_of t)) None) (list_trail_below t way))
    go true e = e
    go false e = refl

-- so it is found from the node of any of them
pub list_from : (nodes : List Node) (p : List Tagged) (t : Tagged) (way : List Tagged) (n : NodeNumber) → node_at nodes p (key_of t) ≡ Some n
    → list_node_at nodes (p ++ t ∷ way) ≡ option_and_then (walk (child_of nodes) n) (list_trail_below t way)
list_from nodes p t way n e =
    let first = parts_of (child_of nodes) (walk (child_of nodes) root) (trail p (key_of t)) n e in
    ap (option_and_then (walk (child_of nodes) root)) (list_trail-by p t way ∙ ap (λ o. joined_ways o (list_trail_below t way)) first.1)
    ∙ onwards first.0 first.2 (list_trail_below t way)
  where
    onwards : (front : List Key) → walk (child_of nodes) root front ≡ Some n → (o : Option (List Key))
        → option_and_then (walk (child_of nodes) root) (option_map (λ keys. front ++ keys) o) ≡ option_and_then (walk (child_of nodes) n) o
    onwards front at None = refl
    onwards front at (Some back) = walk-append (child_of nodes) root front back ∙ ap (option_and_then (λ m. walk (child_of nodes) m back)) at

-- a path that leads to a list ends with the list's key
list_trail_below-end : (t : Tagged) (path : List Tagged) (front : List Key) → list_trail_below t path ≡ Some front
    → (p : List Tagged) × (k : Key) × (t ∷ path ≡ p ++ ListAt k ∷ [])
list_trail_below-end t [] front e = go t e
  where
    go : (t : Tagged) → (if◌then◌else◌ {A = Option (List Key)} (is_list t) (Some []) None) ≡ Some front → (p : List Tagged) × (k : Key) × (t ∷ [] ≡ p ++ ListAt k ∷ [])
    go (ListAt k) f = ([], k, refl)
    go (MapAt k) f = absurd (cc)
list_trail_below-end t (s ∷ path) front e = go (may_follow t (key_of s)) (list_trail_below s path) e (list_trail_below-end s path)
  where
    go : (b : Bool) (o : Option (List Key)) → (if◌then◌else◌ {A = Option (List Key)} b (option_map (λ keys. key_of s ∷ keys) o) None) ≡ Some front
        → ((l : List Key) → o ≡ Some l → (p : List Tagged) × (k : Key) × (s ∷ path ≡ p ++ ListAt k ∷ []))
        → (p : List Tagged) × (k : Key) × (t ∷ s ∷ path ≡ p ++ ListAt k ∷ [])
    go true (Some l) f ih = let r = ih l refl in (t ∷ r.0, r.1, ap (λ q. t ∷ q) r.2)
    go true None f ih = absurd (cc)
    go false o f ih = absurd (cc)

-- and the list is in the node of that key
pub list_end : (nodes : List Node) (path : List Tagged) (n : NodeNumber) → list_node_at nodes path ≡ Some n
    → (p : List Tagged) × (k : Key) × (path ≡ p ++ ListAt k ∷ []) × (node_at nodes p k ≡ Some n)
list_end nodes path n e =
    let way = parts_of (child_of nodes) (walk (child_of nodes) root) (list_trail path) n e in
    let last = ends path way.0 way.1 in
    (last.0, last.1, last.2, sym (list-into nodes last.0 last.1) ∙ ap (list_node_at nodes) (sym last.2) ∙ e)
  where
    ends : (path : List Tagged) (front : List Key) → list_trail path ≡ Some front → (p : List Tagged) × (k : Key) × (path ≡ p ++ ListAt k ∷ [])
    ends [] front f = absurd (cc)
    ends (t ∷ path) front f = go (key_eq (key_of t) Doc) f
      where
        go : (b : Bool) → (if◌then◌else◌ {A = Option (List Key)} b (list_trail_below t path) None) ≡ Some front → (p : List Tagged) × (k : Key) × (t ∷ path ≡ p ++ ListAt k ∷ [])
        go true g = list_trail_below-end t path front g
        go false g = absurd (cc)
