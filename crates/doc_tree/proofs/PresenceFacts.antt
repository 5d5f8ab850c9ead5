-- How making nodes present changes the facts.
use Rattle.std.proofs.Common.{◌≡◌, List, [], ◌∷◌, ◌++◌, length, Bool, true, false, ◌&&◌, ◌||◌, if◌then◌else◌, Option, Some, None, refl, sym, ap, ◌∙◌, subst, true≢false, arith, length-append}
use Rattle.std.specs.Prelude.{is_some, option_and_then}
use Rattle.std.proofs.lemmas.Bool.{and_parts, and_from}
use Rattle.doc_api.specs.Words.{Id, Key, Tagged}
use Rattle.crdt_rules.specs.Same.{id_eq, key_eq, path_eq}
use Rattle.crdt_rules.specs.Within.{is_within}
use Rattle.crdt_rules.proofs.SameLaws.{key_decides, path_decides, eq_from}
use Rattle.doc_api.specs.declared.role.Role.{Role}
use Rattle.doc_api.specs.declared.role.Role.TheVariants.{Through}
use Rattle.presence_set.specs.ById.{get}
use Rattle.presence_set.proofs.ByIdLaws.{get-put}
use Rattle.doc_nodes.specs.declared.node.NodeNumber.{NodeNumber}
use Rattle.doc_nodes.specs.declared.node.Node.{Node}
use Rattle.doc_nodes.specs.Walk.{walk, root, trail}
use Rattle.doc_nodes.specs.Nodes.{node_of, child_of, node_at, AreTree}
use Rattle.doc_tree.specs.Facts.{role_in, part_in, role_at, facts_of}
use Rattle.doc_nodes.specs.PresenceAlong.{made_present, role_before, AddsPresenceAlong}
use Rattle.doc_tree.specs.Changes.{presence_facts}
use Rattle.doc_nodes.proofs.Walks.{one_way}
use Rattle.doc_tree.proofs.Trails.{above, within, one_place}
use Rattle.doc_tree.proofs.Places.{way_to, node_above}
use Rattle.doc_tree.proofs.SameShape.{same_node_at, same_ids}

module _ (id : Id) (role : Role) (old new : List Node) (tree : AreTree old) (p : List Tagged) (k : Key) (keys : List Key) (m : NodeNumber)
    (way : trail p k ≡ Some keys) (at : walk (child_of old) root keys ≡ Some m) (added : AddsPresenceAlong id role old new root keys) where
  -- the role at a place on the way
  role_of : (q : List Tagged) (j : Key) (front rest : List Key) → trail q j ≡ Some front → keys ≡ front ++ rest
      → role_before rest role ≡ (if path_eq p q && key_eq k j then role else Through)
  role_of q j front [] e f =
      let same = one_place p k q j keys way (e ∙ ap Some (sym (f ∙ append_nil front))) in
      let here : (path_eq p q && key_eq k j) ≡ true = and_from (path_eq p q) (key_eq k j) (eq_from path_decides p q same.0) (eq_from key_decides k j same.1) in
      rw here
    where
      append_nil : (l : List Key) → l ++ [] ≡ l
      append_nil [] = refl
      append_nil (x ∷ l) = ap (λ z. x ∷ z) (append_nil l)
  role_of q j front (x ∷ rest) e f = go (path_eq p q && key_eq k j) refl
    where
      go : (b : Bool) → (path_eq p q && key_eq k j) ≡ b → Through ≡ (if b then role else Through)
      go false is = refl
      go true is =
          let both = and_parts (path_eq p q) (key_eq k j) is in
          let there : trail q j ≡ Some keys =
          subst (λ z. trail z j ≡ Some keys) (path_decides.same p q both.0) (subst (λ z. trail p z ≡ Some keys) (key_decides.same k j both.1) way) in
          let alike : ◌≡◌ {A = Option (List Key)} (Some front) (Some keys) = sym e ∙ there in
          let same : front ≡ keys = cc in
          absurd (omega (arith, ap length (same ∙ f), length-append front (x ∷ rest)))

  on_way : (q : List Tagged) (j : Key) (c : NodeNumber) → node_at old q j ≡ Some c → is_within p k q j ≡ true
      → node_of new c ≡ made_present id (if path_eq p q && key_eq k j then role else Through) (node_of old c)
  on_way q j c e w =
      let up = above p k q j keys way w in
      let to = way_to old q j c e in
      let alike : ◌≡◌ {A = Option (List Key)} (Some up.0) (Some to.0) = sym up.2 ∙ to.1 in
      let same : up.0 ≡ to.0 = cc in
      added.along up.0 up.1 c up.3 (ap (walk (child_of old) root) same ∙ to.2)
      ∙ ap (λ r. made_present id r (node_of old c)) (role_of q j up.0 up.1 up.2 up.3)

  off_way : (q : List Tagged) (j : Key) (c : NodeNumber) → node_at old q j ≡ Some c → is_within p k q j ≡ false → node_of new c ≡ node_of old c
  off_way q j c e w = added.outside c (λ front rest f g.
      let to = way_to old q j c e in
      let same = one_way (child_of old) tree c front to.0 g to.2 in
      true≢false (sym (within p k q j to.0 rest (way ∙ ap Some (f ∙ ap (λ l. l ++ rest) same)) to.1) ∙ w))

  pub role-made_present : (q : List Tagged) (j : Key) (i : Id)
      → role_at new q j i ≡ (if is_within p k q j && id_eq id i then Some (if path_eq p q && key_eq k j then role else Through) else role_at old q j i)
  unfolding role_at
  role-made_present q j i = ap (λ o. role_in new o i) (same_node_at old new added.shape q j) ∙ go (node_at old q j) refl (is_within p k q j) refl
    where
      go : (o : Option NodeNumber) → node_at old q j ≡ o → (w : Bool) → is_within p k q j ≡ w
          → role_in new o i ≡ (if w && id_eq id i then Some (if path_eq p q && key_eq k j then role else Through) else role_in old o i)
      go None e false is = refl
      go None e true is =
          let target : node_at old p k ≡ Some m = ap (option_and_then (walk (child_of old) root)) way ∙ at in
          let up = node_above old p k q j m target is in
          let other : ◌≡◌ {A = Option NodeNumber} None (Some up.0) = sym e ∙ up.2 in
          absurd (cc)
      go (Some c) e true is =
          ap (λ z. get z.presence.0 i) (on_way q j c e is) ∙ get-put (node_of old c).presence.0 id (if path_eq p q && key_eq k j then role else Through) i
      go (Some c) e false is = ap (λ z. get z.presence.0 i) (off_way q j c e is)

  is_some-if : (b : Bool) (r : Role) (o : Option Role) → is_some (if b then Some r else o) ≡ (is_some o || b)
  is_some-if true r None = refl
  is_some-if true r (Some s) = refl
  is_some-if false r None = refl
  is_some-if false r (Some s) = refl

  value-made_present : {X : Type 0} (part : Node → List (Id × X)) → ((c : NodeNumber) → part (node_of new c) ≡ part (node_of old c)) → (q : List Tagged) (j : Key) (i : Id)
      → part_in part new (node_at new q j) i ≡ part_in part old (node_at old q j) i
  value-made_present {X} part same q j i = ap (λ o. part_in part new o i) (same_node_at old new added.shape q j) ∙ go (node_at old q j)
    where
      go : (o : Option NodeNumber) → part_in part new o i ≡ part_in part old o i
      go None = refl
      go (Some c) = ap (λ l. get l i) (same c)

  -- the place, and those above it, are present by the id
  pub facts-made_present : facts_of new ≡ presence_facts (facts_of old) p k id
  unfolding facts_of
  facts-made_present =
      λ x. record {
        present = λ q j i. (ap is_some (role-made_present q j i) ∙ is_some-if (is_within p k q j && id_eq id i) (if path_eq p q && key_eq k j then role else Through) (role_at old q j i)) x;
        register = λ q j i. value-made_present (λ z. z.register.0) (λ c. ap (λ r. r.0) (added.kept c).0) q j i x;
        counter = λ q j i. value-made_present (λ z. z.counter.0) (λ c. ap (λ r. r.0) (added.kept c).1) q j i x;
        order = λ q. same_ids old new added.shape (λ c. (added.kept c).2) q x;
      }
