-- The children of a place, and the places below it.
use Rattle.std.proofs.Common.{◌≡◌, ◌<◌, length, List, [], ◌∷◌, ◌++◌, Bool, true, false, Option, Some, None, if◌then◌else◌, refl, sym, ap, ◌∙◌, true≢false}
use Rattle.std.specs.Prelude.{option_and_then, is_some}
use Rattle.std.specs.Option.{option_map}
use Rattle.doc_api.specs.Words.{Id, Key, Tagged}
use Rattle.op_core.specs.declared.cursor.Key.TheVariants.{Doc}
use Rattle.op_core.specs.declared.cursor.Tagged.TheVariants.{List as ListAt}
use Rattle.op_core.specs.Shape.{key_of, may_follow}
use Rattle.crdt_rules.specs.Same.{key_eq}
use Rattle.doc_nodes.specs.declared.node.NodeNumber.{NodeNumber}
use Rattle.doc_nodes.specs.declared.node.Node.{Node}
use Rattle.doc_nodes.specs.Walk.{trail, trail_below, list_trail, list_trail_below, walk, root}
use Rattle.doc_nodes.specs.Nodes.{AreTree, node_of, child_of, node_at, list_node_at}
use Rattle.doc_tree.specs.Facts.{role_in, role_at, facts_of}
use Rattle.doc_nodes.specs.ListPresence.{is_node_present}
use Rattle.doc_nodes.proofs.HasPresence.{some_entry}
use Rattle.doc_nodes.proofs.Walks.{parts_of, walk-append, walk_split}
use Rattle.doc_tree.proofs.Places.{node_by}

-- the way to what is below a place goes by the place
trail_below-into : (s : Tagged) (p : List Tagged) (t : Tagged) (x : Key) → may_follow t x ≡ true
    → trail_below s (p ++ t ∷ []) x ≡ option_map (λ keys. keys ++ x ∷ []) (trail_below s p (key_of t))
trail_below-into s [] t x fits = go (may_follow s (key_of t)) (may_follow t x) fits
  where
    go : (b d : Bool) → d ≡ true
        → ◌≡◌ {A = Option (List Key)} (if b then option_map (λ keys. key_of t ∷ keys) (if◌then◌else◌ {A = Option (List Key)} d (Some (x ∷ [])) None) else None) (option_map (λ keys. keys ++ x ∷ []) (if◌then◌else◌ {A = Option (List Key)} b (Some (key_of t ∷ [])) None))
    go true true e = refl
    go false true e = refl
    go b false e = absurd (true≢false (sym e))
trail_below-into s (r ∷ p) t x fits = go (may_follow s (key_of r)) (trail_below r p (key_of t)) (trail_below r (p ++ t ∷ []) x) (trail_below-into r p t x fits)
  where
    go : (b : Bool) (o q : Option (List Key)) → q ≡ option_map (λ keys. keys ++ x ∷ []) o
        → ◌≡◌ {A = Option (List Key)} (if b then option_map (λ keys. key_of r ∷ keys) q else None) (option_map (λ keys. keys ++ x ∷ []) (if◌then◌else◌ {A = Option (List Key)} b (option_map (λ keys. key_of r ∷ keys) o) None))
    go false o q e = refl
    go true None q e = ap (option_map (λ keys. key_of r ∷ keys)) e
    go true (Some l) q e = ap (option_map (λ keys. key_of r ∷ keys)) e

trail-into : (p : List Tagged) (t : Tagged) (x : Key) → may_follow t x ≡ true → trail (p ++ t ∷ []) x ≡ option_map (λ keys. keys ++ x ∷ []) (trail p (key_of t))
trail-into [] t x fits = go (key_eq (key_of t) Doc) (may_follow t x) fits
  where
    go : (b d : Bool) → d ≡ true
        → ◌≡◌ {A = Option (List Key)} (if b then (if◌then◌else◌ {A = Option (List Key)} d (Some (x ∷ [])) None) else None) (option_map (λ keys. keys ++ x ∷ []) (if◌then◌else◌ {A = Option (List Key)} b (Some []) None))
    go true true e = refl
    go false true e = refl
    go b false e = absurd (true≢false (sym e))
trail-into (r ∷ p) t x fits = go (key_eq (key_of r) Doc) (trail_below-into r p t x fits)
  where
    go : (b : Bool) → trail_below r (p ++ t ∷ []) x ≡ option_map (λ keys. keys ++ x ∷ []) (trail_below r p (key_of t))
        → ◌≡◌ {A = Option (List Key)} (if b then trail_below r (p ++ t ∷ []) x else None) (option_map (λ keys. keys ++ x ∷ []) (if◌then◌else◌ {A = Option (List Key)} b (trail_below r p (key_of t)) None))
    go true e = e
    go false e = refl

-- a way of one step leads where the step leads
pub one_step : (o : Option NodeNumber) → option_and_then (λ c. Some c) o ≡ o
one_step None = refl
one_step (Some c) = refl

-- so what is below a place is a child of the place's node
pub number-into : (nodes : List Node) (p : List Tagged) (t : Tagged) (x : Key) → may_follow t x ≡ true
    → node_at nodes (p ++ t ∷ []) x ≡ option_and_then (λ n. child_of nodes n x) (node_at nodes p (key_of t))
number-into nodes p t x fits = ap (option_and_then (walk (child_of nodes) root)) (trail-into p t x fits) ∙ at (trail p (key_of t))
  where
    from : (o : Option NodeNumber) → option_and_then (λ m. walk (child_of nodes) m (x ∷ [])) o ≡ option_and_then (λ n. child_of nodes n x) o
    from None = refl
    from (Some m) = one_step (child_of nodes m x)

    at : (o : Option (List Key)) → option_and_then (walk (child_of nodes) root) (option_map (λ keys. keys ++ x ∷ []) o)
        ≡ option_and_then (λ n. child_of nodes n x) (option_and_then (walk (child_of nodes) root) o)
    at None = refl
    at (Some keys) = walk-append (child_of nodes) root keys (x ∷ []) ∙ from (walk (child_of nodes) root keys)

-- the list at a place is in the place's node
list_trail_below-into : (s : Tagged) (p : List Tagged) (k : Key) → list_trail_below s (p ++ ListAt k ∷ []) ≡ trail_below s p k
list_trail_below-into s [] k = refl
list_trail_below-into s (r ∷ p) k = ap (λ o. if◌then◌else◌ {A = Option (List Key)} (may_follow s (key_of r)) (option_map (λ keys. key_of r ∷ keys) o) None) (list_trail_below-into r p k)

list_trail-into : (p : List Tagged) (k : Key) → list_trail (p ++ ListAt k ∷ []) ≡ trail p k
list_trail-into [] k = refl
list_trail-into (r ∷ p) k = ap (λ o. if◌then◌else◌ {A = Option (List Key)} (key_eq (key_of r) Doc) o None) (list_trail_below-into r p k)

pub list-into : (nodes : List Node) (p : List Tagged) (k : Key) → list_node_at nodes (p ++ ListAt k ∷ []) ≡ node_at nodes p k
list-into nodes p k = ap (option_and_then (walk (child_of nodes) root)) (list_trail-into p k)

-- the children of a node have greater numbers
pub child_deeper : (nodes : List Node) → AreTree nodes → (n : NodeNumber) (k : Key) (c : NodeNumber) → child_of nodes n k ≡ Some c → (n.0 < c.0) × (c.0 < length nodes)
child_deeper nodes tree n k c e = (tree.rising n k c e, tree.within n k c e)

module _ (nodes : List Node) (p : List Tagged) (t : Tagged) (x : Key) (fits : may_follow t x ≡ true) where
  -- a key of the map at a place, or an element of its list, that has a node is a child of the place's node
  child_at : (c : NodeNumber) → node_at nodes (p ++ t ∷ []) x ≡ Some c
      → (n : NodeNumber) × (node_at nodes p (key_of t) ≡ Some n) × (child_of nodes n x ≡ Some c)
  child_at c e = go (trail p (key_of t)) refl (sym (ap (option_and_then (walk (child_of nodes) root)) (trail-into p t x fits)) ∙ e)
    where
      go : (o : Option (List Key)) → trail p (key_of t) ≡ o → option_and_then (walk (child_of nodes) root) (option_map (λ keys. keys ++ x ∷ []) o) ≡ Some c
          → (n : NodeNumber) × (node_at nodes p (key_of t) ≡ Some n) × (child_of nodes n x ≡ Some c)
      go None is f = let none : ◌≡◌ {A = Option NodeNumber} None (Some c) = f in absurd (cc)
      go (Some keys) is f =
          let parts = walk_split (child_of nodes) root c keys (x ∷ []) f in
          let down = parts_of (child_of nodes) (λ m. walk (child_of nodes) m []) (child_of nodes parts.0 x) c parts.2 in
          (parts.0, node_by nodes p (key_of t) keys parts.0 is parts.1, down.1 ∙ down.2)

  -- so is one that is present
  pub present_child : (i : Id) → (facts_of nodes).present (p ++ t ∷ []) x i ≡ true
      → (n : NodeNumber) × (c : NodeNumber) × (node_at nodes p (key_of t) ≡ Some n) × (child_of nodes n x ≡ Some c) × (is_node_present nodes (Some c) ≡ true)
  unfolding facts_of role_at
  present_child i h = go (node_at nodes (p ++ t ∷ []) x) refl h
    where
      go : (o : Option NodeNumber) → node_at nodes (p ++ t ∷ []) x ≡ o → is_some (role_in nodes o i) ≡ true
          → (n : NodeNumber) × (c : NodeNumber) × (node_at nodes p (key_of t) ≡ Some n) × (child_of nodes n x ≡ Some c) × (is_node_present nodes (Some c) ≡ true)
      go None is f = absurd (cc)
      go (Some c) is f = let at = child_at c is in (at.0, c, at.1, at.2, some_entry (node_of nodes c).presence.0 i f)
