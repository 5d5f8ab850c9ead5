-- What the clearing of one child after another comes to.
use Rattle.std.proofs.Common.{◌≡◌, ◌≢◌, ℕ, zero, suc, ◌<◌, List, [], ◌∷◌, ◌++◌, length, get_or, set, Contains, Some, ◌⊎◌, inl, inr, ⊎_elim, sym, ap, ◌∙◌, subst, arith}
use Rattle.std.proofs.lemmas.List.{get_or-set_same, get_or-set_other}
use Rattle.std.proofs.lemmas.Bool.{cases_eq}
use mathlib.Core.Path.{fun_ext}
use Rattle.op_core.specs.declared.cursor.Key.{Key}
use Rattle.presence_set.proofs.ByIdLaws.{uncovered-uncovered}
use Rattle.doc_nodes.specs.declared.node.NodeNumber.{NodeNumber}
use Rattle.doc_nodes.specs.declared.node.Node.{Node}
use Rattle.key_map.specs.ByKey.{at_key}
use Rattle.doc_nodes.specs.Walk.{walk, IsTree}
use Rattle.list_laws.proofs.Members.{Contains-nil}
use Rattle.std.proofs.lemmas.List.Elements.{Contains-append_cases}
use Rattle.doc_nodes.specs.Nodes.{blank_node, node_of, child_of, cleared, IsPartCleared, ClearsUnder, ClearsFirst, AreTree}
use Rattle.doc_nodes.proofs.AddingPresence.{eq_number}

pub cleared-cleared : (front : List (List ℕ × ℕ)) (node : Node) → cleared front (cleared front node) ≡ cleared front node
cleared-cleared front node =
    λ i. record node { presence = (uncovered-uncovered front node.presence.0 i, node.presence.1); register = (uncovered-uncovered front node.register.0 i, node.register.1); counter = (uncovered-uncovered front node.counter.0 i, node.counter.1) }

-- so the tree keeps its shape
pub same_children : (front : List (List ℕ × ℕ)) (old new : List Node) → IsPartCleared front old new → child_of new ≡ child_of old
same_children front old new each =
    fun_ext (λ n. fun_ext (λ k. ap (λ cs. at_key cs k) (⊎_elim (λ e. ap (λ z. z.children.0) e) (λ e. ap (λ z. z.children.0) e) (each n))))

-- clearing part after part
pub each-each : (front : List (List ℕ × ℕ)) (a b c : List Node) → IsPartCleared front a b → IsPartCleared front b c → IsPartCleared front a c
each-each front a b c first second j = go (first j) (second j)
  where
    go : (node_of b j ≡ node_of a j) ⊎ (node_of b j ≡ cleared front (node_of a j)) → (node_of c j ≡ node_of b j) ⊎ (node_of c j ≡ cleared front (node_of b j))
        → (node_of c j ≡ node_of a j) ⊎ (node_of c j ≡ cleared front (node_of a j))
    go (inl e) (inl f) = inl (f ∙ e)
    go (inl e) (inr f) = inr (f ∙ ap (cleared front) e)
    go (inr e) (inl f) = inr (f ∙ e)
    go (inr e) (inr f) = inr (f ∙ ap (cleared front) e ∙ cleared-cleared front (node_of a j))

-- what is cleared stays so
stays : (front : List (List ℕ × ℕ)) (a b c : List Node) (j : NodeNumber) → node_of b j ≡ cleared front (node_of a j) → IsPartCleared front b c → node_of c j ≡ cleared front (node_of a j)
stays front a b c j e second = go (second j)
  where
    go : (node_of c j ≡ node_of b j) ⊎ (node_of c j ≡ cleared front (node_of b j)) → node_of c j ≡ cleared front (node_of a j)
    go (inl f) = f ∙ e
    go (inr f) = f ∙ ap (cleared front) e ∙ cleared-cleared front (node_of a j)

pub only_one : (x e : Key × NodeNumber) → Contains (x ∷ []) e → e ≡ x
only_one x e has = go has.0 has.1 has.2
  where
    go : (i : ℕ) → i < length (x ∷ []) → get_or (x ∷ []) i e ≡ e → e ≡ x
    go zero within is = sym is
    go (suc i) within is = absurd (omega (arith, within))

module _ (front : List (List ℕ × ℕ)) (old new : List Node) (at : NodeNumber) where
  pub none_yet : at.0 < length old → new ≡ set old at.0 (cleared front (node_of old at)) → ClearsFirst front old new at []
  none_yet inside is = record {
    each = λ j. ⊎_elim (λ e. inr (at_node j (eq_number j at e))) (λ e. inl (other j e)) (cases_eq j.0 at.0);
    changed = λ j. ⊎_elim (λ e. inr ([], ap Some (sym (eq_number j at e)))) (λ e. inl (other j e)) (cases_eq j.0 at.0);
    here = here;
    below = λ e has j keys way. absurd (Contains-nil has);
    outside = λ j unreached. ⊎_elim (λ e. absurd (unreached [] (ap Some (sym (eq_number j at e))))) (λ e. other j e) (cases_eq j.0 at.0);
  }
    where
      here : node_of new at ≡ cleared front (node_of old at)
      here = ap (λ l. node_of l at) is ∙ get_or-set_same old at.0 (cleared front (node_of old at)) blank_node inside

      at_node : (j : NodeNumber) → j ≡ at → node_of new j ≡ cleared front (node_of old j)
      at_node j e = subst (λ z. node_of new z ≡ cleared front (node_of old z)) (sym e) here

      other : (j : NodeNumber) → j.0 ≢ at.0 → node_of new j ≡ node_of old j
      other j e = ap (λ l. node_of l j) is ∙ get_or-set_other old at.0 j.0 (cleared front (node_of old at)) blank_node e

  pub one_more : (next : List Node) (done : List (Key × NodeNumber)) (k : Key) (c : NodeNumber) → ClearsFirst front old new at done → child_of old at k ≡ Some c
      → ClearsUnder front new next c → ClearsFirst front old next at (done ++ (k, c) ∷ [])
  one_more next done k c first found call = record {
    each = each-each front old new next first.each call.each;
    changed = λ j. ⊎_elim
        (λ still. ⊎_elim
        (λ same. inl (same ∙ still))
        (λ way. inr (k ∷ way.0, below_step way.0 j (ap (λ f. walk f c way.0) (sym shape) ∙ way.1)))
        (call.changed j))
        (λ way. inr way)
        (first.changed j);
    here = stays front old new next at first.here call.each;
    below = λ e has j keys way. ⊎_elim
        (λ earlier. stays front old new next j (first.below e earlier j keys way) call.each)
        (λ last. now j keys (subst (λ z. walk (child_of old) z keys ≡ Some j) (ap (λ (x : Key × NodeNumber). x.1) (only_one (k, c) e last)) way))
        (Contains-append_cases done ((k, c) ∷ []) e has);
    outside = λ j unreached.
        call.outside j (λ keys e. unreached (k ∷ keys) (below_step keys j (ap (λ f. walk f c keys) (sym shape) ∙ e)))
        ∙ first.outside j unreached;
  }
    where
      shape : child_of new ≡ child_of old
      shape = same_children front old new first.each

      below_step : (keys : List Key) (j : NodeNumber) → walk (child_of old) c keys ≡ Some j → walk (child_of old) at (k ∷ keys) ≡ Some j
      below_step keys j e = rw found e

      now : (j : NodeNumber) (keys : List Key) → walk (child_of old) c keys ≡ Some j → node_of next j ≡ cleared front (node_of old j)
      now j keys e = ⊎_elim
          (λ same. call.inside j keys (ap (λ f. walk f c keys) shape ∙ e) ∙ ap (cleared front) same)
          (λ done. stays front old new next j done call.each)
          (first.each j)

-- the nodes stay a tree
pub tree-cleared : (front : List (List ℕ × ℕ)) (old new : List Node) → IsPartCleared front old new → length new ≡ length old → AreTree old → AreTree new
tree-cleared front old new each same tree =
    subst (λ f. IsTree f (length new)) (sym (same_children front old new each)) (subst (λ n. IsTree (child_of old) n) (sym same) tree)
