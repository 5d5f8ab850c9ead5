-- Growth changes no fact.
use Rattle.std.proofs.Common.{◌≡◌, List, [], length, Option, Some, None, ⊎_elim, refl, sym, ap, ◌∙◌}
use Rattle.std.specs.Prelude.{is_some, option_and_then}
use Rattle.std.proofs.lemmas.List.{get_or_past}
use Rattle.std.proofs.lemmas.Bool.{cases_lt}
use Rattle.doc_api.specs.Words.{Id, Key, Tagged}
use Rattle.presence_set.specs.ById.{get}
use Rattle.doc_nodes.specs.declared.node.NodeNumber.{NodeNumber}
use Rattle.doc_nodes.specs.declared.node.Node.{Node}
use Rattle.doc_nodes.specs.Walk.{walk, root, trail, list_trail}
use Rattle.list_order.specs.Entries.{ids_of}
use Rattle.doc_nodes.specs.Nodes.{blank_node, node_of, child_of, AreTree}
use Rattle.doc_tree.specs.Facts.{role_in, register_in, number_in, ids_in, role_at, facts_of}
use Rattle.doc_nodes.specs.Growth.{Grows}
use Rattle.doc_nodes.proofs.Growing.{walk_forward, walk_back}

module _ (old new : List Node) (grows : Grows old new) where
  -- what a part of the node says, wherever keys lead
  same_part : {X : Type 0} (part : Node → X) (none : X) → ((n : NodeNumber) → part (node_of new n) ≡ part (node_of old n)) → part blank_node ≡ none → AreTree old → AreTree new
      → (reads : List Node → Option NodeNumber → X) → ((nodes : List Node) → reads nodes None ≡ none) → ((nodes : List Node) (n : NodeNumber) → reads nodes (Some n) ≡ part (node_of nodes n))
      → (way : Option (List Key)) → reads new (option_and_then (walk (child_of new) root) way) ≡ reads old (option_and_then (walk (child_of old) root) way)
  same_part {X} part none same empty old_tree new_tree reads at_none at_some None = at_none new ∙ sym (at_none old)
  same_part {X} part none same empty old_tree new_tree reads at_none at_some (Some keys) = go (walk (child_of new) root keys) refl (walk (child_of old) root keys) refl
    where
      go : (a : Option NodeNumber) → walk (child_of new) root keys ≡ a → (b : Option NodeNumber) → walk (child_of old) root keys ≡ b → reads new a ≡ reads old b
      go None e None f = at_none new ∙ sym (at_none old)
      go None e (Some d) f = let both : ◌≡◌ {A = Option NodeNumber} None (Some d) = sym e ∙ walk_forward old new grows root d keys f in absurd (cc)
      go (Some c) e (Some d) f =
          let both : ◌≡◌ {A = Option NodeNumber} (Some c) (Some d) = sym e ∙ walk_forward old new grows root d keys f in
          let alike : c ≡ d = cc in
          at_some new c ∙ same c ∙ ap (λ z. part (node_of old z)) alike ∙ sym (at_some old d)
      go (Some c) e None f = ⊎_elim
          (λ l. let both : ◌≡◌ {A = Option NodeNumber} (Some c) None = sym (walk_back old new grows new_tree root c keys e l) ∙ f in absurd (cc))
          (λ l. at_some new c ∙ same c ∙ ap part (get_or_past old c.0 blank_node l) ∙ empty ∙ sym (at_none old))
          (cases_lt c.0 (length old))

  module _ (old_tree : AreTree old) (new_tree : AreTree new) where
    pub role-grown : (q : List Tagged) (j : Key) (i : Id) → role_at new q j i ≡ role_at old q j i
    unfolding role_at
    role-grown q j i =
        same_part (λ z. get z.presence.0 i) None (λ n. ap (λ l. get l i) (grows.presence n)) refl old_tree new_tree (λ l o. role_in l o i) (λ l. refl) (λ l n. refl) (trail q j)

    -- the facts stay
    pub facts-grown : facts_of new ≡ facts_of old
    unfolding facts_of
    facts-grown = λ x. record {
      present = λ q j i. ap is_some (role-grown q j i) x;
      register = λ q j i. same_part (λ z. get z.register.0 i) None (λ n. ap (λ l. get l i) (grows.register n)) refl old_tree new_tree (λ l o. register_in l o i) (λ l. refl) (λ l n. refl) (trail q j) x;
      counter = λ q j i. same_part (λ z. get z.counter.0 i) None (λ n. ap (λ l. get l i) (grows.counter n)) refl old_tree new_tree (λ l o. number_in l o i) (λ l. refl) (λ l n. refl) (trail q j) x;
      order = λ q. same_part (λ z. ids_of z.order.0) [] (λ n. ap ids_of (grows.order n)) refl old_tree new_tree ids_in (λ l. refl) (λ l n. refl) (list_trail q) x;
    }
