-- What the clearing of nodes does to the facts.
use Rattle.std.proofs.Common.{◌≡◌, ℕ, List, Bool, true, false, ◌&&◌, not, if◌then◌else◌, Option, Some, None, ⊎_elim, refl, sym, ap, ◌∙◌, subst, true≢false}
use Rattle.std.specs.Prelude.{is_some}
use Rattle.std.proofs.Math.Bool.{and-true}
use Rattle.doc_api.specs.Words.{Id, Key, Tagged}
use Rattle.version_vector.specs.Front.{covers}
use Rattle.crdt_rules.specs.Within.{is_within}
use Rattle.crdt_rules.proofs.StepFacts.{none_either}
use Rattle.crdt_rules.proofs.Tests.{same_found}
use Rattle.doc_api.specs.declared.role.Role.{Role}
use Rattle.presence_set.specs.ById.{get, uncovered}
use Rattle.presence_set.proofs.ByIdLaws.{get-uncovered}
use Rattle.doc_nodes.specs.declared.node.NodeNumber.{NodeNumber}
use Rattle.doc_nodes.specs.declared.node.Node.{Node}
use Rattle.doc_nodes.specs.Walk.{walk}
use Rattle.doc_nodes.specs.Nodes.{node_of, child_of, node_at, list_node_at, AreTree, ClearsUnder, cleared}
use Rattle.doc_tree.specs.Facts.{role_in, part_in, ids_in, role_at, facts_of}
use Rattle.doc_tree.specs.Changes.{clear_facts_at}
use Rattle.doc_nodes.proofs.Clearing.{same_children}
use Rattle.doc_tree.proofs.Places.{node_above, within_from_walk}
use Rattle.doc_tree.proofs.SameShape.{same_node_at, same_ids}

module _ (front : List (List ℕ × ℕ)) (old new : List Node) (tree : AreTree old) (p : List Tagged) (k : Key) (m : NodeNumber)
    (at : node_at old p k ≡ Some m) (clears : ClearsUnder front old new m) where
  shape : child_of new ≡ child_of old
  shape = same_children front old new clears.each

  -- a node within the place is cleared, and any other stays
  inside : (q : List Tagged) (j : Key) (c : NodeNumber) → node_at old q j ≡ Some c → is_within q j p k ≡ true → node_of new c ≡ cleared front (node_of old c)
  inside q j c e w =
      let up = node_above old q j p k c e w in
      clears.inside c up.1 (subst (λ z. walk (child_of old) z up.1 ≡ Some c) (same_found up.2 at) up.3)

  outside : (q : List Tagged) (j : Key) (c : NodeNumber) → node_at old q j ≡ Some c → is_within q j p k ≡ false → node_of new c ≡ node_of old c
  outside q j c e w = clears.outside c (λ keys g. true≢false (sym (within_from_walk old tree q j p k c m keys e at g) ∙ w))

  pub role-cleared : (q : List Tagged) (j : Key) (i : Id) → role_at new q j i ≡ (if is_within q j p k && covers front i then None else role_at old q j i)
  unfolding role_at
  role-cleared q j i = ap (λ o. role_in new o i) (same_node_at old new shape q j) ∙ go (node_at old q j) refl (is_within q j p k) refl
    where
      go : (o : Option NodeNumber) → node_at old q j ≡ o → (w : Bool) → is_within q j p k ≡ w → role_in new o i ≡ (if w && covers front i then None else role_in old o i)
      go None e w is = sym (none_either (w && covers front i))
      go (Some c) e true is = ap (λ z. get z.presence.0 i) (inside q j c e is) ∙ get-uncovered front (node_of old c).presence.0 i
      go (Some c) e false is = ap (λ z. get z.presence.0 i) (outside q j c e is)

  value-cleared : {X : Type 0} (part : Node → List (Id × X)) → ((node : Node) → part (cleared front node) ≡ uncovered front (part node)) → (q : List Tagged) (j : Key) (i : Id)
      → part_in part new (node_at new q j) i ≡ (if is_within q j p k && covers front i then None else part_in part old (node_at old q j) i)
  value-cleared {X} part drops q j i = ap (λ o. part_in part new o i) (same_node_at old new shape q j) ∙ go (node_at old q j) refl (is_within q j p k) refl
    where
      go : (o : Option NodeNumber) → node_at old q j ≡ o → (w : Bool) → is_within q j p k ≡ w → part_in part new o i ≡ (if w && covers front i then None else part_in part old o i)
      go None e w is = sym (none_either (w && covers front i))
      go (Some c) e true is = ap (λ z. get (part z) i) (inside q j c e is) ∙ ap (λ l. get l i) (drops (node_of old c)) ∙ get-uncovered front (part (node_of old c)) i
      go (Some c) e false is = ap (λ z. get (part z) i) (outside q j c e is)

  same_order : (c : NodeNumber) → (node_of new c).order ≡ (node_of old c).order
  same_order c = ⊎_elim (λ e. ap (λ z. z.order) e) (λ e. ap (λ z. z.order) e) (clears.each c)

  is_some-if : (b : Bool) (o : Option Role) → is_some (if b then None else o) ≡ (is_some o && not b)
  is_some-if true None = refl
  is_some-if true (Some r) = refl
  is_some-if false None = refl
  is_some-if false (Some r) = refl

  -- the facts are cleared at the place and below it
  pub facts-cleared : facts_of new ≡ clear_facts_at (facts_of old) p k (covers front)
  unfolding facts_of
  facts-cleared =
      λ x. record {
        present = λ q j i. (ap is_some (role-cleared q j i) ∙ is_some-if (is_within q j p k && covers front i) (role_at old q j i)) x;
        register = λ q j i. value-cleared (λ z. z.register.0) (λ z. refl) q j i x;
        counter = λ q j i. value-cleared (λ z. z.counter.0) (λ z. refl) q j i x;
        order = λ q. same_ids old new shape same_order q x;
      }

-- where a place has no node, there is nothing there or below
pub facts-unchanged : (front : List (List ℕ × ℕ)) (nodes : List Node) (p : List Tagged) (k : Key) → node_at nodes p k ≡ None
    → facts_of nodes ≡ clear_facts_at (facts_of nodes) p k (covers front)
unfolding facts_of role_at
facts-unchanged front nodes p k none =
    λ x. record {
      present = λ q j i. present_stays q j i (node_at nodes q j) refl (is_within q j p k) refl x;
      register = λ q j i. value_stays (λ z. z.register.0) q j i (node_at nodes q j) refl (is_within q j p k) refl x;
      counter = λ q j i. value_stays (λ z. z.counter.0) q j i (node_at nodes q j) refl (is_within q j p k) refl x;
      order = λ q. ids_in nodes (list_node_at nodes q);
    }
  where
    apart : (q : List Tagged) (j : Key) (c : NodeNumber) → node_at nodes q j ≡ Some c → is_within q j p k ≡ true → ⊥
    apart q j c e w = let up = node_above nodes q j p k c e w in let other : ◌≡◌ {A = Option NodeNumber} None (Some up.0) = sym none ∙ up.2 in cc

    present_stays : (q : List Tagged) (j : Key) (i : Id) (o : Option NodeNumber) → node_at nodes q j ≡ o → (w : Bool) → is_within q j p k ≡ w
        → is_some (role_in nodes o i) ≡ (is_some (role_in nodes o i) && not (w && covers front i))
    present_stays q j i None e w is = refl
    present_stays q j i (Some c) e true is = absurd (apart q j c e is)
    present_stays q j i (Some c) e false is = sym (and-true (is_some (get (node_of nodes c).presence.0 i)))

    value_stays : {X : Type 0} (part : Node → List (Id × X)) (q : List Tagged) (j : Key) (i : Id) (o : Option NodeNumber) → node_at nodes q j ≡ o → (w : Bool) → is_within q j p k ≡ w
        → part_in part nodes o i ≡ (if w && covers front i then None else part_in part nodes o i)
    value_stays {X} part q j i None e w is = sym (none_either (w && covers front i))
    value_stays {X} part q j i (Some c) e true is = absurd (apart q j c e is)
    value_stays {X} part q j i (Some c) e false is = refl

-- so no role changes there
pub role-unchanged : (front : List (List ℕ × ℕ)) (nodes : List Node) (p : List Tagged) (k : Key) → node_at nodes p k ≡ None
    → (q : List Tagged) (j : Key) (i : Id) → role_at nodes q j i ≡ (if is_within q j p k && covers front i then None else role_at nodes q j i)
unfolding role_at
role-unchanged front nodes p k none q j i = go (node_at nodes q j) refl (is_within q j p k) refl
  where
    go : (o : Option NodeNumber) → node_at nodes q j ≡ o → (w : Bool) → is_within q j p k ≡ w → role_in nodes o i ≡ (if w && covers front i then None else role_in nodes o i)
    go None e w is = sym (none_either (w && covers front i))
    go (Some c) e true is =
        let up = node_above nodes q j p k c e is in
        let other : ◌≡◌ {A = Option NodeNumber} None (Some up.0) = sym none ∙ up.2 in
        absurd (cc)
    go (Some c) e false is = refl
