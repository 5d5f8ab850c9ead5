-- Laws of growth.
use Rattle.std.proofs.Common.{◌≡◌, ◌<◌, List, [], ◌∷◌, ◌++◌, length, Option, Some, None, refl, sym, ap, ◌∙◌, subst, arith, true}
use Rattle.std.specs.Prelude.{IsSome}
use Rattle.doc_api.specs.Words.{Key}
use Rattle.doc_nodes.specs.declared.node.NodeNumber.{NodeNumber}
use Rattle.doc_nodes.specs.declared.node.Node.{Node}
use Rattle.doc_nodes.specs.Walk.{walk}
use Rattle.doc_nodes.specs.Nodes.{node_of, child_of, AreTree}
use Rattle.doc_nodes.specs.Growth.{Grows, IsMade}
use Rattle.doc_nodes.proofs.Walks.{parts_of, walk_rises, walk_split}

pub grows_twice : (a b c : List Node) → Grows a b → Grows b c → Grows a c
grows_twice a b c one two = record {
  size = omega (arith, one.size, two.size);
  presence = λ n. two.presence n ∙ one.presence n;
  register = λ n. two.register n ∙ one.register n;
  counter = λ n. two.counter n ∙ one.counter n;
  order = λ n. two.order n ∙ one.order n;
  candidates = λ n e there. two.candidates n e (one.candidates n e there);
  may_have_present_child = λ n. two.may_have_present_child n ∙ one.may_have_present_child n;
  presence_room = λ n room. two.presence_room n (one.presence_room n room);
  register_room = λ n. omega (arith, one.register_room n, two.register_room n);
  counter_room = λ n room. two.counter_room n (one.counter_room n room);
  order_room = λ n. omega (arith, one.order_room n, two.order_room n);
  forward = λ n k m e. two.forward n k m (one.forward n k m e);
  back = λ n k m e l. one.back n k m (two.back n k m e (omega (arith, l, one.size))) l;
}

module _ (old new : List Node) (grows : Grows old new) where
  pub walk_forward : (n c : NodeNumber) (keys : List Key) → walk (child_of old) n keys ≡ Some c → walk (child_of new) n keys ≡ Some c
  walk_forward n c [] e = e
  walk_forward n c (k ∷ keys) e =
      let step = parts_of (child_of old) (λ m. walk (child_of old) m keys) (child_of old n k) c e in
      rw (grows.forward n k step.0 step.1) (walk_forward step.0 c keys step.2)

  pub walk_back : AreTree new → (n c : NodeNumber) (keys : List Key) → walk (child_of new) n keys ≡ Some c → c.0 < length old → walk (child_of old) n keys ≡ Some c
  walk_back tree n c [] e l = e
  walk_back tree n c (k ∷ keys) e l =
      let step = parts_of (child_of new) (λ m. walk (child_of new) m keys) (child_of new n k) c e in
      let below : step.0.0 < length old = omega (arith, walk_rises (child_of new) tree step.0 c keys step.2, l) in
      rw (grows.back n k step.0 step.1 below) (walk_back tree step.0 c keys step.2 l)

  -- what was made stays
  pub made-grown : (n : NodeNumber) (keys : List Key) → IsMade old n keys → IsMade new n keys
  made-grown n keys made = record {
    reached = at (walk (child_of old) n keys) refl made.reached;
    room = λ front rest j e w. at_front front rest j e w (walk (child_of old) n keys) refl made.reached;
  }
    where
      at : (o : Option NodeNumber) → walk (child_of old) n keys ≡ o → IsSome o → IsSome (walk (child_of new) n keys)
      at None e h = absurd (cc)
      at (Some c) e h = subst IsSome (sym (walk_forward n c keys e)) refl

      at_front : (front rest : List Key) (j : NodeNumber) → keys ≡ front ++ rest → walk (child_of new) n front ≡ Some j
          → (o : Option NodeNumber) → walk (child_of old) n keys ≡ o → IsSome o → (node_of new j).presence.1 ≡ true
      at_front front rest j e w None f h = absurd (cc)
      at_front front rest j e w (Some c) f h =
          let parts = walk_split (child_of old) n c front rest (ap (walk (child_of old) n) (sym e) ∙ f) in
          let both : ◌≡◌ {A = Option NodeNumber} (Some j) (Some parts.0) = sym w ∙ walk_forward n parts.0 front parts.1 in
          let alike : parts.0 ≡ j = cc in
          grows.presence_room j (made.room front rest j e (parts.1 ∙ ap Some alike))
