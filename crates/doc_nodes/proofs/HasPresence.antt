-- What made a value is what makes its node present, after each write.
use Rattle.std.proofs.Common.{◌≡◌, ℕ, ℤ, ◌+◌, ◌<◌, ◌≤◌, List, [], ◌∷◌, ◌++◌, append-nil, append_assoc, length, set, Bool, true, false, if◌then◌else◌, Option, Some, None, ◌⊎◌, inl, inr, ⊎_elim, refl, sym, ap, ◌∙◌, subst, true≢false, arith, Contains}
use Rattle.std.specs.Prelude.{is_some, option_and_then, ◌&&◌, ◌||◌}
use Rattle.std.proofs.lemmas.Bool.{cases_eq, cases_lt}
use Rattle.std.proofs.Math.Bool.{or-true}
use Rattle.std.proofs.lemmas.List.{get_or_past}
use Rattle.doc_api.specs.Words.{Id, Key, Scalar}
use Rattle.version_vector.specs.Front.{covers}
use Rattle.crdt_rules.specs.Same.{id_eq}
use Rattle.crdt_rules.proofs.SameLaws.{id_decides}
use Rattle.doc_api.specs.declared.role.Role.{Role}
use Rattle.doc_api.specs.declared.role.Role.TheVariants.{Through}
use Rattle.presence_set.specs.ById.{get, put_at_id, uncovered}
use Rattle.presence_set.proofs.ByIdLaws.{get-put, get-uncovered}
use Rattle.doc_nodes.specs.declared.node.NodeNumber.{NodeNumber}
use Rattle.doc_nodes.specs.declared.node.Node.{Node}
use Rattle.doc_nodes.specs.Walk.{walk, root}
use Rattle.doc_nodes.specs.Nodes.{blank_node, node_of, child_of, cleared, AreTree, ClearsUnder, ClearsFirst}
use Rattle.doc_nodes.specs.PresenceAlong.{passes, role_before, may_have_present_child_after, AddsPresenceAlong}
use Rattle.doc_nodes.specs.Writes.{with_scalar, with_number, with_entry}
use Rattle.doc_nodes.specs.Growth.{Grows}
use Rattle.doc_nodes.specs.ListPresence.{plain, without_list_presence, is_some_entry, is_node_present}
use Rattle.doc_nodes.specs.HasPresence.{HasEntry, IsPresentBy, HasPresence, HavePresenceFrom, HavePresence}
use Rattle.doc_nodes.proofs.Walks.{parts_of, walk_join}
use Rattle.doc_nodes.proofs.Clearing.{none_yet, same_children}
use Rattle.doc_nodes.proofs.AddingPresence.{here-set, other-set, eq_number, shape-set}
use Rattle.doc_nodes.proofs.AddingPresence.{unwritten}
use Rattle.doc_nodes.proofs.Plain.{node_of-plain, child_of-plain, length-plain, write-plain, tree-plain}

-- what is in entries
module _ {X : Type 0} where
  no_entry : (entries : List (Id × X)) (i : Id) → entries ≡ [] → HasEntry entries i → ⊥
  no_entry entries i none there = true≢false (sym there ∙ ap (λ l. is_some (get l i)) none)

  none_present : (entries : List (Id × X)) → ((i : Id) → HasEntry entries i → ⊥) → entries ≡ []
  none_present [] none = refl
  none_present (e ∷ entries) none =
      absurd (none e.0 (subst (λ b. is_some (if b then Some e.1 else get entries e.0) ≡ true) (sym (id_decides.itself e.0)) refl))

  uncovered-none : (front : List (List ℕ × ℕ)) (entries : List (Id × X)) → entries ≡ [] → uncovered front entries ≡ entries
  uncovered-none front entries none = ap (uncovered front) none ∙ sym none

  present-before : (entries : List (Id × X)) (front : List (List ℕ × ℕ)) (i : Id) → HasEntry (uncovered front entries) i → HasEntry entries i
  present-before entries front i there = go (covers front i) (subst (λ o. is_some o ≡ true) (get-uncovered front entries i) there)
    where
      go : (b : Bool) → is_some (if b then None else get entries i) ≡ true → is_some (get entries i) ≡ true
      go true h = absurd (true≢false (sym h))
      go false h = h

  present-after : (entries : List (Id × X)) (id : Id) (x : X) (i : Id) → HasEntry entries i → HasEntry (put_at_id entries id x) i
  present-after entries id x i there = subst (λ o. is_some o ≡ true) (sym (get-put entries id x i)) (go (id_eq id i))
    where
      go : (b : Bool) → is_some (if b then Some x else get entries i) ≡ true
      go true = refl
      go false = there

  present-own : (entries : List (Id × X)) (id : Id) (x : X) → HasEntry (put_at_id entries id x) id
  present-own entries id x =
      subst (λ o. is_some o ≡ true) (sym (get-put entries id x id))
      (subst (λ b. is_some (if b then Some x else get entries id) ≡ true) (sym (id_decides.itself id)) refl)

  present-in_put : (entries : List (Id × X)) (id : Id) (x : X) (i : Id) → HasEntry (put_at_id entries id x) i → (id ≡ i) ⊎ HasEntry entries i
  present-in_put entries id x i there = go (id_eq id i) refl (subst (λ o. is_some o ≡ true) (get-put entries id x i) there)
    where
      go : (b : Bool) → id_eq id i ≡ b → is_some (if b then Some x else get entries i) ≡ true → (id ≡ i) ⊎ HasEntry entries i
      go true same h = inl (id_decides.same id i same)
      go false other h = inr h

-- what is taken out of both alike
present-uncovered : {X Y : Type 0} (fewer : List (Id × X)) (more : List (Id × Y)) → ((i : Id) → HasEntry fewer i → HasEntry more i)
    → (front : List (List ℕ × ℕ)) (i : Id) → HasEntry (uncovered front fewer) i → HasEntry (uncovered front more) i
present-uncovered fewer more within front i there =
    subst (λ o. is_some o ≡ true) (sym (get-uncovered front more i)) (go (covers front i) (subst (λ o. is_some o ≡ true) (get-uncovered front fewer i) there))
  where
    go : (b : Bool) → is_some (if b then None else get fewer i) ≡ true → is_some (if b then None else get more i) ≡ true
    go true h = absurd (true≢false (sym h))
    go false h = within i h

-- one node
node-cleared : (front : List (List ℕ × ℕ)) (node : Node) → HasPresence node → HasPresence (cleared front node)
node-cleared front node has_presence = record {
  register = present-uncovered node.register.0 node.presence.0 has_presence.register front;
  counter = present-uncovered node.counter.0 node.presence.0 has_presence.counter front;
}

pub node-entered : (id : Id) (s : Scalar) (node : Node) → IsPresentBy node id → HasPresence node → HasPresence (with_scalar id s node)
node-entered id s node present has_presence = record {
  register = λ i there. ⊎_elim (λ own. subst (IsPresentBy node) own present) (has_presence.register i) (present-in_put node.register.0 id s i there);
  counter = has_presence.counter;
}

pub node-counted : (id : Id) (n : ℤ) (node : Node) → IsPresentBy node id → HasPresence node → HasPresence (with_number id n node)
node-counted id n node present has_presence = record {
  register = has_presence.register;
  counter = λ i there. ⊎_elim (λ own. subst (IsPresentBy node) own present) (has_presence.counter i) (present-in_put node.counter.0 id n i there);
}

pub node-linked : (after : Option Id) (id : Id) (node : Node) → HasPresence node → HasPresence (with_entry after id node)
node-linked after id node has_presence = record { register = has_presence.register; counter = has_presence.counter }

node-untouched : (front : List (List ℕ × ℕ)) (node : Node) → node.presence.0 ≡ [] → HasPresence node → cleared front node ≡ node
node-untouched front node none has_presence =
    let presence = uncovered-none front node.presence.0 none in
    let register = uncovered-none front node.register.0 (none_present node.register.0 (λ i there. no_entry node.presence.0 i none (has_presence.register i there))) in
    let counter = uncovered-none front node.counter.0 (none_present node.counter.0 (λ i there. no_entry node.presence.0 i none (has_presence.counter i there))) in
    λ i. record node { presence = (presence i, node.presence.1); register = (register i, node.register.1); counter = (counter i, node.counter.1) }

-- fewer nodes are asked
pub has_presence_from : (nodes : List Node) (m n : ℕ) → m ≤ n → HavePresenceFrom nodes m → HavePresenceFrom nodes n
has_presence_from nodes m n less has_presence = record {
  each = has_presence.each;
  above = λ p k c i le down there. has_presence.above p k c i (omega (arith, less, le)) down there;
  may_have_present_child = λ p k c i le down there. has_presence.may_have_present_child p k c i (omega (arith, less, le)) down there;
}

-- the lists of the nodes are of no account
pub has_presence-plain : (nodes : List Node) (m : ℕ) → HavePresenceFrom nodes m → HavePresenceFrom (plain nodes) m
has_presence-plain nodes m has_presence = record {
  each = λ n. subst HasPresence (sym (node_of-plain nodes n)) (record { register = (has_presence.each n).register; counter = (has_presence.each n).counter });
  above = λ n k c i le down there.
      subst (λ z. IsPresentBy z i) (sym (node_of-plain nodes n))
      (has_presence.above n k c i le (ap (λ f. f n k) (sym (child_of-plain nodes)) ∙ down) (subst (λ z. IsPresentBy z i) (node_of-plain nodes c) there));
  may_have_present_child = λ n k c i le down there.
      ap (λ z. z.may_have_present_child) (node_of-plain nodes n)
      ∙ has_presence.may_have_present_child n k c i le (ap (λ f. f n k) (sym (child_of-plain nodes)) ∙ down) (subst (λ z. IsPresentBy z i) (node_of-plain nodes c) there);
}

pub has_presence_of-plain : (nodes : List Node) (m : ℕ) → HavePresenceFrom (plain nodes) m → HavePresenceFrom nodes m
has_presence_of-plain nodes m has_presence = record {
  each = λ n. let now : HasPresence (without_list_presence (node_of nodes n)) = subst HasPresence (node_of-plain nodes n) (has_presence.each n) in record { register = now.register; counter = now.counter };
  above = λ n k c i le down there.
      subst (λ z. IsPresentBy z i) (node_of-plain nodes n)
      (has_presence.above n k c i le (ap (λ f. f n k) (child_of-plain nodes) ∙ down) (subst (λ z. IsPresentBy z i) (sym (node_of-plain nodes c)) there));
  may_have_present_child = λ n k c i le down there.
      ap (λ z. z.may_have_present_child) (sym (node_of-plain nodes n))
      ∙ has_presence.may_have_present_child n k c i le (ap (λ f. f n k) (child_of-plain nodes) ∙ down) (subst (λ z. IsPresentBy z i) (sym (node_of-plain nodes c)) there);
}

pub has_presence-same : (old new : List Node) (m : ℕ) → plain new ≡ plain old → HavePresenceFrom old m → HavePresenceFrom new m
has_presence-same old new m same has_presence = has_presence_of-plain new m (subst (λ l. HavePresenceFrom l m) (sym same) (has_presence-plain old m has_presence))

no_entries : (entries : List (Id × Role)) → is_some_entry entries ≡ false → entries ≡ []
no_entries [] none = refl
no_entries (e ∷ entries) none = absurd (true≢false none)

-- A node that isn't present holds nothing, nor does any below it, so it is cleared as it is.
module _ (front : List (List ℕ × ℕ)) (nodes : List Node) (n : NodeNumber) (tree : AreTree nodes) (has_presence : HavePresenceFrom nodes n.0) where
  absent_below : (p : NodeNumber) (keys : List Key) (j : NodeNumber) → n.0 ≤ p.0 → (node_of nodes p).presence.0 ≡ [] → walk (child_of nodes) p keys ≡ Some j
      → (node_of nodes j).presence.0 ≡ []
  absent_below p [] j le absent e = let same : p ≡ j = cc in subst (λ z. (node_of nodes z).presence.0 ≡ []) same absent
  absent_below p (k ∷ keys) j le absent e =
      let step = parts_of (child_of nodes) (λ m. walk (child_of nodes) m keys) (child_of nodes p k) j e in
      absent_below step.0 keys j (omega (arith, le, tree.rising p k step.0 step.1))
      (none_present (node_of nodes step.0).presence.0 (λ i there. no_entry (node_of nodes p).presence.0 i absent (has_presence.above p k step.0 i le step.1 there)))
      step.2

  clears_nothing : (node_of nodes n).presence.0 ≡ [] → ClearsUnder front nodes nodes n
  clears_nothing none = record {
    each = λ j. inl refl;
    changed = λ j. inl refl;
    inside = λ j keys e. sym (node-untouched front (node_of nodes j) (absent_below n keys j (omega arith) none e) (has_presence.each j));
    outside = λ j off. refl;
  }

  -- where no child may be present, the node alone is cleared
  clears_alone : n.0 < length nodes → (node_of nodes n).may_have_present_child ≡ false → ClearsUnder front nodes (set nodes n.0 (cleared front (node_of nodes n))) n
  clears_alone within none = record {
    each = alone.each;
    changed = alone.changed;
    inside = inside;
    outside = alone.outside;
  }
    where
      alone : ClearsFirst front nodes (set nodes n.0 (cleared front (node_of nodes n))) n []
      alone = none_yet front nodes (set nodes n.0 (cleared front (node_of nodes n))) n within refl

      inside : (j : NodeNumber) (keys : List Key) → walk (child_of nodes) n keys ≡ Some j
          → node_of (set nodes n.0 (cleared front (node_of nodes n))) j ≡ cleared front (node_of nodes j)
      inside j [] e = let same : n ≡ j = cc in subst (λ z. node_of (set nodes n.0 (cleared front (node_of nodes n))) z ≡ cleared front (node_of nodes z)) same alone.here
      inside j (k ∷ keys) e =
          let step = parts_of (child_of nodes) (λ m. walk (child_of nodes) m keys) (child_of nodes n k) j e in
          let child = none_present (node_of nodes step.0).presence.0 (λ i there. true≢false (sym (has_presence.may_have_present_child n k step.0 i (omega arith) step.1 there) ∙ none)) in
          let absent = absent_below step.0 keys j (omega (arith, tree.rising n k step.0 step.1)) child step.2 in
          ⊎_elim (λ still. still ∙ sym (node-untouched front (node_of nodes j) absent (has_presence.each j))) (λ done. done) (alone.each j)

  -- where all children that are present are done, the node is
  clears_all : (new : List Node) (done : List (Key × NodeNumber)) → ClearsFirst front nodes new n done
      → ((k : Key) (c : NodeNumber) → child_of nodes n k ≡ Some c → is_node_present nodes (Some c) ≡ true → Contains done (k, c)) → ClearsUnder front nodes new n
  clears_all new done first all = record {
    each = first.each;
    changed = first.changed;
    inside = inside;
    outside = first.outside;
  }
    where
      at_child : (k : Key) (c : NodeNumber) → child_of nodes n k ≡ Some c → (j : NodeNumber) (keys : List Key) → walk (child_of nodes) c keys ≡ Some j
          → (b : Bool) → is_node_present nodes (Some c) ≡ b → node_of new j ≡ cleared front (node_of nodes j)
      at_child k c down j keys e true is = first.below (k, c) (all k c down is) j keys e
      at_child k c down j keys e false is =
          let absent = absent_below c keys j (omega (arith, tree.rising n k c down)) (no_entries (node_of nodes c).presence.0 is) e in
          ⊎_elim (λ still. still ∙ sym (node-untouched front (node_of nodes j) absent (has_presence.each j))) (λ done. done) (first.each j)

      inside : (j : NodeNumber) (keys : List Key) → walk (child_of nodes) n keys ≡ Some j → node_of new j ≡ cleared front (node_of nodes j)
      inside j [] e = let same : n ≡ j = cc in subst (λ z. node_of new z ≡ cleared front (node_of nodes z)) same first.here
      inside j (k ∷ keys) e =
          let step = parts_of (child_of nodes) (λ m. walk (child_of nodes) m keys) (child_of nodes n k) j e in
          at_child k step.0 step.1 j keys step.2 (is_node_present nodes (Some step.0)) refl

pub some_entry : (entries : List (Id × Role)) (i : Id) → HasEntry entries i → is_some_entry entries ≡ true
some_entry [] i there = there
some_entry (e ∷ entries) i there = refl

pub clears-absent : (front : List (List ℕ × ℕ)) (nodes : List Node) (n : NodeNumber) → AreTree nodes → HavePresenceFrom nodes n.0 → is_node_present nodes (Some n) ≡ false
    → ClearsUnder front (plain nodes) (plain nodes) n
clears-absent front nodes n tree has_presence absent =
    clears_nothing front (plain nodes) n (tree-plain nodes tree) (has_presence-plain nodes n.0 has_presence)
    (ap (λ z. z.presence.0) (node_of-plain nodes n) ∙ no_entries (node_of nodes n).presence.0 absent)

pub clears-all : (front : List (List ℕ × ℕ)) (nodes new : List Node) (n : NodeNumber) (done : List (Key × NodeNumber)) → AreTree nodes → HavePresenceFrom nodes n.0
    → ClearsFirst front (plain nodes) (plain new) n done
    → ((k : Key) (c : NodeNumber) → child_of nodes n k ≡ Some c → is_node_present nodes (Some c) ≡ true → Contains done (k, c)) → ClearsUnder front (plain nodes) (plain new) n
clears-all front nodes new n done tree has_presence first all =
    clears_all front (plain nodes) n (tree-plain nodes tree) (has_presence-plain nodes n.0 has_presence) (plain new) done first
    (λ k c down present. all k c (ap (λ f. f n k) (sym (child_of-plain nodes)) ∙ down) (ap (λ z. is_some_entry z.presence.0) (sym (node_of-plain nodes c)) ∙ present))

pub clears-childless : (front : List (List ℕ × ℕ)) (nodes : List Node) (n : NodeNumber) → n.0 < length nodes → AreTree nodes → HavePresenceFrom nodes n.0 → (node_of nodes n).may_have_present_child ≡ false
    → ClearsUnder front (plain nodes) (plain (set nodes n.0 (cleared front (node_of nodes n)))) n
clears-childless front nodes n within tree has_presence none =
    subst (λ l. ClearsUnder front (plain nodes) l n) (sym (write-plain nodes n (cleared front) (λ z. refl)))
    (clears_alone front (plain nodes) n (tree-plain nodes tree) (has_presence-plain nodes n.0 has_presence) (subst (λ z. n.0 < z) (sym (length-plain nodes)) within)
    (ap (λ z. z.may_have_present_child) (node_of-plain nodes n) ∙ none))

-- a node is cleared, and not yet those below it, which keep this law
pub has_presence-first : (front : List (List ℕ × ℕ)) (nodes : List Node) (at : NodeNumber) → at.0 < length nodes → AreTree nodes → HavePresenceFrom nodes at.0
    → HavePresenceFrom (set nodes at.0 (cleared front (node_of nodes at))) (at.0 + 1)
has_presence-first front nodes at within tree has_presence = record {
  each = λ n. ⊎_elim
      (λ e. subst (λ z. HasPresence (node_of now z)) (sym (eq_number n at e)) (subst HasPresence (sym (here-set nodes at node within)) (node-cleared front (node_of nodes at) (has_presence.each at))))
      (λ apart. subst HasPresence (sym (other-set nodes at n node apart)) (has_presence.each n))
      (cases_eq n.0 at.0);
  above = λ n k c i le down there.
      let before : child_of nodes n k ≡ Some c = ap (λ f. f n k) (sym (shape-set nodes at node within refl)) ∙ down in
      subst (λ z. IsPresentBy z i) (sym (other-set nodes at n node (λ e. absurd (omega (arith, e, le)))))
      (has_presence.above n k c i (omega (arith, le)) before
      (subst (λ z. IsPresentBy z i) (other-set nodes at c node (λ e. absurd (omega (arith, e, le, tree.rising n k c before)))) there));
  may_have_present_child = λ n k c i le down there.
      let before : child_of nodes n k ≡ Some c = ap (λ f. f n k) (sym (shape-set nodes at node within refl)) ∙ down in
      ap (λ z. z.may_have_present_child) (other-set nodes at n node (λ e. absurd (omega (arith, e, le))))
      ∙ has_presence.may_have_present_child n k c i (omega (arith, le)) before
      (subst (λ z. IsPresentBy z i) (other-set nodes at c node (λ e. absurd (omega (arith, e, le, tree.rising n k c before)))) there);
}
  where
    node : Node
    node = cleared front (node_of nodes at)

    now : List Node
    now = set nodes at.0 (cleared front (node_of nodes at))

-- the nodes from one down are cleared
module _ (front : List (List ℕ × ℕ)) (old new : List Node) (n : NodeNumber) (m : ℕ) (has_presence : HavePresenceFrom old m) (clears : ClearsUnder front old new n) where
  has_presence_under : HavePresenceFrom new m
  has_presence_under = record {
    each = λ j. ⊎_elim
        (λ still. subst HasPresence (sym still) (has_presence.each j))
        (λ done. subst HasPresence (sym done) (node-cleared front (node_of old j) (has_presence.each j)))
        (clears.each j);
    above = above;
    may_have_present_child = λ p k c i le down there.
        ⊎_elim (λ still. ap (λ z. z.may_have_present_child) still) (λ done. ap (λ z. z.may_have_present_child) done) (clears.each p)
        ∙ has_presence.may_have_present_child p k c i le (ap (λ f. f p k) (sym (same_children front old new clears.each)) ∙ down) (before c i there);
  }
    where
      before : (c : NodeNumber) (i : Id) → IsPresentBy (node_of new c) i → IsPresentBy (node_of old c) i
      before c i there = ⊎_elim
          (λ still. subst (λ z. IsPresentBy z i) still there)
          (λ done. present-before (node_of old c).presence.0 front i (subst (λ z. IsPresentBy z i) done there))
          (clears.each c)

      above : (p : NodeNumber) (k : Key) (c : NodeNumber) (i : Id) → m ≤ p.0 → child_of new p k ≡ Some c
          → IsPresentBy (node_of new c) i → IsPresentBy (node_of new p) i
      above p k c i le down there =
          let was : child_of old p k ≡ Some c = ap (λ f. f p k) (sym (same_children front old new clears.each)) ∙ down in
          ⊎_elim
          (λ still. subst (λ z. IsPresentBy z i) (sym still) (has_presence.above p k c i le was (before c i there)))
          (λ way.
          let under = walk_join (child_of old) n p c way.0 (k ∷ []) way.1 (ap (option_and_then (λ z. walk (child_of old) z [])) was) in
          subst (λ z. IsPresentBy z i) (sym (clears.inside p way.0 way.1))
          (present-uncovered (node_of old c).presence.0 (node_of old p).presence.0 (λ j here. has_presence.above p k c j le was here) front i
          (subst (λ z. IsPresentBy z i) (clears.inside c (way.0 ++ k ∷ []) under) there)))
          (clears.changed p)

pub has_presence-cleared : (front : List (List ℕ × ℕ)) (old new : List Node) (n : NodeNumber) (m : ℕ) → HavePresenceFrom old m → ClearsUnder front (plain old) (plain new) n
    → HavePresenceFrom new m
has_presence-cleared front old new n m has_presence clears = has_presence_of-plain new m (has_presence_under front (plain old) (plain new) n m (has_presence-plain old m has_presence) clears)

-- the last step of a walk that goes anywhere
last_of : (child : NodeNumber → Key → Option NodeNumber) (n : NodeNumber) (k : Key) (keys : List Key) (c : NodeNumber) → walk child n (k ∷ keys) ≡ Some c
    → (m : NodeNumber) × (front : List Key) × (j : Key) × (k ∷ keys ≡ front ++ j ∷ []) × (walk child n front ≡ Some m) × (child m j ≡ Some c)
last_of child n k [] c e =
    let step = parts_of child (λ z. walk child z []) (child n k) c e in
    (n, [], k, refl, refl, step.1 ∙ step.2)
last_of child n k (q ∷ keys) c e =
    let step = parts_of child (λ z. walk child z (q ∷ keys)) (child n k) c e in
    let last = last_of child step.0 q keys c step.2 in
    (last.0, k ∷ last.1, last.2, ap (λ l. k ∷ l) last.3, ap (option_and_then (λ z. walk child z last.1)) step.1 ∙ last.4, last.5)

-- the nodes on a way from the root are made present
module _ (id : Id) (role : Role) (old new : List Node) (keys : List Key) (tree : AreTree old) (added : AddsPresenceAlong id role old new root keys) where
  still_present : (j : NodeNumber) (i : Id) → IsPresentBy (node_of old j) i → IsPresentBy (node_of new j) i
  still_present j i there = ⊎_elim
      (λ still. subst (λ z. IsPresentBy z i) (sym still) there)
      (λ way. subst (λ z. IsPresentBy z i) (sym (added.along way.0 way.1 j way.2 way.3)) (present-after (node_of old j).presence.0 id (role_before way.1 role) i there))
      (added.changed j)

  present_above : (p : NodeNumber) (k : Key) (c : NodeNumber) → child_of old p k ≡ Some c → (front rest : List Key) → keys ≡ front ++ rest
      → walk (child_of old) root front ≡ Some c → IsPresentBy (node_of new p) id
  present_above p k c down [] rest split way = let same : root ≡ c = cc in absurd (omega (arith, tree.rising p k c down, ap (λ z. z.0) same))
  present_above p k c down (q ∷ front) rest split way =
      let last = last_of (child_of old) root q front c way in
      let one = tree.unique last.0 p last.2 k c last.5 down in
      let here = added.along last.1 (last.2 ∷ rest) last.0 (split ∙ ap (λ l. l ++ rest) last.3 ∙ append_assoc last.1 (last.2 ∷ []) rest) last.4 in
      subst (λ z. IsPresentBy (node_of new z) id) one.0 (subst (λ z. IsPresentBy z id) (sym here) (present-own (node_of old last.0).presence.0 id Through))

  -- a node that leads on, and is present, leads on after it
  still_may_have : (j : NodeNumber) (i : Id) → IsPresentBy (node_of old j) i → (node_of old j).may_have_present_child ≡ true → (node_of new j).may_have_present_child ≡ true
  still_may_have j i there may_have_present_child = ⊎_elim
      (λ still. ap (λ z. z.may_have_present_child) still ∙ may_have_present_child)
      (λ way. ap (λ z. z.may_have_present_child) (added.along way.0 way.1 j way.2 way.3) ∙ kept (role_before way.1 role))
      (added.changed j)
    where
      kept : (r : Role) → may_have_present_child_after r (node_of old j) ≡ true
      kept r =
          ap (λ b. passes r || (b && is_some_entry (node_of old j).presence.0)) may_have_present_child
          ∙ ap (λ b. passes r || b) (some_entry (node_of old j).presence.0 i there)
          ∙ or-true (passes r)

  present_child_above : (p : NodeNumber) (k : Key) (c : NodeNumber) → child_of old p k ≡ Some c → (front rest : List Key) → keys ≡ front ++ rest
      → walk (child_of old) root front ≡ Some c → (node_of new p).may_have_present_child ≡ true
  present_child_above p k c down [] rest split way = let same : root ≡ c = cc in absurd (omega (arith, tree.rising p k c down, ap (λ z. z.0) same))
  present_child_above p k c down (q ∷ front) rest split way =
      let last = last_of (child_of old) root q front c way in
      let one = tree.unique last.0 p last.2 k c last.5 down in
      let here = added.along last.1 (last.2 ∷ rest) last.0 (split ∙ ap (λ l. l ++ rest) last.3 ∙ append_assoc last.1 (last.2 ∷ []) rest) last.4 in
      subst (λ z. (node_of new z).may_have_present_child ≡ true) one.0 (ap (λ z. z.may_have_present_child) here)

  has_presence_along : HavePresence old → HavePresence new
  has_presence_along has_presence = record {
    each = λ j. record {
      register = λ i there. still_present j i ((has_presence.each j).register i (subst (λ z. HasEntry z.0 i) (added.kept j).0 there));
      counter = λ i there. still_present j i ((has_presence.each j).counter i (subst (λ z. HasEntry z.0 i) (added.kept j).1 there));
    };
    above = λ p k c i le down there.
        let was : child_of old p k ≡ Some c = ap (λ f. f p k) (sym added.shape) ∙ down in
        ⊎_elim
        (λ still. still_present p i (has_presence.above p k c i le was (subst (λ z. IsPresentBy z i) still there)))
        (λ way. ⊎_elim
        (λ own. subst (IsPresentBy (node_of new p)) own (present_above p k c was way.0 way.1 way.2 way.3))
        (λ before. still_present p i (has_presence.above p k c i le was before))
        (present-in_put (node_of old c).presence.0 id (role_before way.1 role) i (subst (λ z. IsPresentBy z i) (added.along way.0 way.1 c way.2 way.3) there)))
        (added.changed c);
    may_have_present_child = λ p k c i le down there.
        let was : child_of old p k ≡ Some c = ap (λ f. f p k) (sym added.shape) ∙ down in
        let stays : IsPresentBy (node_of old c) i → (node_of new p).may_have_present_child ≡ true =
        λ before. still_may_have p i (has_presence.above p k c i le was before) (has_presence.may_have_present_child p k c i le was before) in
        ⊎_elim
        (λ still. stays (subst (λ z. IsPresentBy z i) still there))
        (λ way. ⊎_elim
        (λ own. present_child_above p k c was way.0 way.1 way.2 way.3)
        stays
        (present-in_put (node_of old c).presence.0 id (role_before way.1 role) i (subst (λ z. IsPresentBy z i) (added.along way.0 way.1 c way.2 way.3) there)))
        (added.changed c);
  }

  present_end : (m : NodeNumber) → walk (child_of old) root keys ≡ Some m → IsPresentBy (node_of new m) id
  present_end m way =
      subst (λ z. IsPresentBy z id) (sym (added.along keys [] m (sym (append-nil keys)) way)) (present-own (node_of old m).presence.0 id role)

module _ (id : Id) (role : Role) (old new : List Node) (keys : List Key) (tree : AreTree old) (added : AddsPresenceAlong id role (plain old) (plain new) root keys) where
  pub has_presence-made_present : HavePresence old → HavePresence new
  has_presence-made_present has_presence = has_presence_of-plain new 0 (has_presence_along id role (plain old) (plain new) keys (tree-plain old tree) added (has_presence-plain old 0 has_presence))

  pub present-made_present : (m : NodeNumber) → walk (child_of old) root keys ≡ Some m → IsPresentBy (node_of new m) id
  present-made_present m way =
      subst (λ z. IsPresentBy z id) (node_of-plain new m)
      (present_end id role (plain old) (plain new) keys (tree-plain old tree) added m (ap (λ f. walk f root keys) (child_of-plain old) ∙ way))

-- a node is written elsewhere than in its presence and its children
pub has_presence-set : (nodes : List Node) (at : NodeNumber) (node : Node) → at.0 < length nodes → node.children.0 ≡ (node_of nodes at).children.0
    → node.presence ≡ (node_of nodes at).presence → node.may_have_present_child ≡ (node_of nodes at).may_have_present_child → HasPresence node → HavePresence nodes → HavePresence (set nodes at.0 node)
has_presence-set nodes at node within children presence may_have_present_child here has_presence = record {
  each = λ n. ⊎_elim
      (λ e. subst (λ z. HasPresence (node_of (set nodes at.0 node) z)) (sym (eq_number n at e)) (subst HasPresence (sym (here-set nodes at node within)) here))
      (λ apart. subst HasPresence (sym (other-set nodes at n node apart)) (has_presence.each n))
      (cases_eq n.0 at.0);
  above = λ n k c i le down there.
      subst (λ z. HasEntry z.0 i) (sym (unwritten nodes at within (λ z. z.presence) node presence n))
      (has_presence.above n k c i le (ap (λ f. f n k) (sym (shape-set nodes at node within children)) ∙ down)
      (subst (λ z. HasEntry z.0 i) (unwritten nodes at within (λ z. z.presence) node presence c) there));
  may_have_present_child = λ n k c i le down there.
      unwritten nodes at within (λ z. z.may_have_present_child) node may_have_present_child n
      ∙ has_presence.may_have_present_child n k c i le (ap (λ f. f n k) (sym (shape-set nodes at node within children)) ∙ down)
      (subst (λ z. HasEntry z.0 i) (unwritten nodes at within (λ z. z.presence) node presence c) there);
}

-- the nodes grow
pub has_presence-grown : (old new : List Node) → Grows old new → HavePresence old → HavePresence new
has_presence-grown old new grows has_presence = record {
  each = λ n. record {
    register = λ i there. subst (λ l. HasEntry l i) (sym (grows.presence n)) ((has_presence.each n).register i (subst (λ l. HasEntry l i) (grows.register n) there));
    counter = λ i there. subst (λ l. HasEntry l i) (sym (grows.presence n)) ((has_presence.each n).counter i (subst (λ l. HasEntry l i) (grows.counter n) there));
  };
  above = λ n k c i le down there.
      let was = subst (λ l. HasEntry l i) (grows.presence c) there in
      ⊎_elim
      (λ less. subst (λ l. HasEntry l i) (sym (grows.presence n)) (has_presence.above n k c i le (grows.back n k c down less) was))
      (λ past. absurd (no_entry (node_of old c).presence.0 i (ap (λ z. z.presence.0) (get_or_past old c.0 blank_node past)) was))
      (cases_lt c.0 (length old));
  may_have_present_child = λ n k c i le down there.
      let was = subst (λ l. HasEntry l i) (grows.presence c) there in
      ⊎_elim
      (λ less. grows.may_have_present_child n ∙ has_presence.may_have_present_child n k c i le (grows.back n k c down less) was)
      (λ past. absurd (no_entry (node_of old c).presence.0 i (ap (λ z. z.presence.0) (get_or_past old c.0 blank_node past)) was))
      (cases_lt c.0 (length old));
}
