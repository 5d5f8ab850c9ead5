-- What an assignment needs, step by step.
use Rattle.std.proofs.Common.{◌≡◌, ℕ, ℤ, ◌<◌, List, [], ◌∷◌, length, set, Option, Some, None, Bool, true, false, if◌then◌else◌, ◌&&◌, inl, ⊎_elim, refl, sym, ap, ◌∙◌, subst, arith}
use Rattle.std.specs.Prelude.{IsSome, option_and_then}
use Rattle.std.specs.Option.{option_map}
use Rattle.doc_api.specs.Words.{Id, Key, Tagged, Scalar}
use Rattle.op_core.specs.declared.cursor.Key.TheVariants.{Doc, Element}
use Rattle.version_vector.specs.Front.{covers}
use Rattle.op_core.specs.Shape.{key_of, may_follow}
use Rattle.crdt_rules.specs.Same.{key_eq, id_eq, path_eq}
use Rattle.doc_api.specs.declared.role.Role.{Role}
use Rattle.presence_set.proofs.ByIdLaws.{length-uncovered}
use Rattle.doc_nodes.specs.declared.node.NodeNumber.{NodeNumber}
use Rattle.doc_nodes.specs.declared.node.Node.{Node}
use Rattle.doc_nodes.specs.Walk.{walk, root, trail, trail_below}
use Rattle.doc_nodes.specs.Nodes.{node_of, child_of, node_at, AreTree, ClearsUnder, IsPartCleared}
use Rattle.doc_tree.specs.Facts.{facts_of, role_at}
use Rattle.doc_tree.specs.Changes.{clear_facts_at}
use Rattle.doc_nodes.specs.PresenceAlong.{keys_below, keys_to, HasRoomAlong, IsReady, AddsPresenceAlong}
use Rattle.doc_tree.specs.Changes.{presence_facts}
use Rattle.doc_nodes.proofs.Clearing.{same_children, tree-cleared}
use Rattle.doc_nodes.specs.Writes.{with_scalar, with_number}
use Rattle.doc_tree.specs.Changes.{put_facts, put_role, enter_facts, add_facts, add_role, count_facts}
use Rattle.crdt_rules.specs.Within.{is_within}
use Rattle.doc_api.specs.declared.role.Role.TheVariants.{Through}
use Rattle.doc_tree.proofs.Places.{way_to, node_within}
use Rattle.doc_tree.proofs.ClearFacts.{facts-cleared, role-cleared}
use Rattle.doc_tree.proofs.PresenceFacts.{facts-made_present, role-made_present}
use Rattle.doc_tree.proofs.WriteFacts.{facts-entered, facts-counted, role-set}
use Rattle.doc_nodes.proofs.AddingPresence.{tree-set}
use Rattle.doc_nodes.specs.ListPresence.{plain, ShowsPresence, ShowsPresenceBut, ListsShowPresenceBut, HaveCandidates}
use Rattle.doc_nodes.proofs.Plain.{child_of-plain, node_of-plain, node_at-plain, tree-plain, shape_of-plain, tree_same}
use Rattle.doc_tree.proofs.PlainFacts.{facts-plain, role-plain}

-- the keys of a trail
keys_of_trail_below : (t : Tagged) (p : List Tagged) (k : Key) (keys : List Key) → trail_below t p k ≡ Some keys → keys ≡ keys_below p k
keys_of_trail_below t [] k keys e = go (may_follow t k) e
  where
    go : (b : Bool) → (if b then Some (k ∷ []) else None) ≡ Some keys → keys ≡ k ∷ []
    go true f = cc
    go false f = cc
keys_of_trail_below t (s ∷ p) k keys e = go (may_follow t (key_of s)) (trail_below s p k) (keys_of_trail_below s p k) e
  where
    go : (b : Bool) (o : Option (List Key)) → ((l : List Key) → o ≡ Some l → l ≡ keys_below p k)
        → (if b then option_map (λ l. key_of s ∷ l) o else None) ≡ Some keys → keys ≡ key_of s ∷ keys_below p k
    go true (Some l) ih f = let same : key_of s ∷ l ≡ keys = cc in sym same ∙ ap (λ z. key_of s ∷ z) (ih l refl)
    go true None ih f = cc
    go false o ih f = cc

pub keys_of_trail : (p : List Tagged) (k : Key) (keys : List Key) → trail p k ≡ Some keys → keys ≡ keys_to p k
keys_of_trail [] k keys e = go (key_eq k Doc) e
  where
    go : (b : Bool) → (if b then Some [] else None) ≡ Some keys → keys ≡ []
    go true f = cc
    go false f = cc
keys_of_trail (t ∷ p) k keys e = go (key_eq (key_of t) Doc) e
  where
    go : (b : Bool) → (if b then trail_below t p k else None) ≡ Some keys → keys ≡ keys_below p k
    go true f = keys_of_trail_below t p k keys f
    go false f = cc

-- the way to a place that has a node
pub known_way : (nodes : List Node) (p : List Tagged) (k : Key) (m : NodeNumber) → node_at nodes p k ≡ Some m
    → (trail p k ≡ Some (keys_to p k)) × (walk (child_of nodes) root (keys_to p k) ≡ Some m)
known_way nodes p k m e =
    let way = way_to nodes p k m e in
    let same = keys_of_trail p k way.0 way.1 in
    (way.1 ∙ ap Some same, subst (λ l. walk (child_of nodes) root l ≡ Some m) same way.2)

module _ (front : List (List ℕ × ℕ)) (old new : List Node) (each : IsPartCleared front old new) where
  shape : child_of new ≡ child_of old
  shape = same_children front old new each

  -- a node that is cleared has no less room
  presence_room : (j : NodeNumber) → (node_of old j).presence.1 ≡ true → (node_of new j).presence.1 ≡ true
  presence_room j room = ⊎_elim
      (λ e. subst (λ z. z.presence.1 ≡ true) (sym e) room)
      (λ e. subst (λ z. z.presence.1 ≡ true) (sym e) room)
      (each j)

  pub register_room : (j : NodeNumber) → length (node_of old j).register.0 < (node_of old j).register.1 → length (node_of new j).register.0 < (node_of new j).register.1
  register_room j room = ⊎_elim
      (λ e. subst (λ z. length z.register.0 < z.register.1) (sym e) room)
      (λ e. let less = length-uncovered front (node_of old j).register.0 in subst (λ z. length z.register.0 < z.register.1) (sym e) (omega (arith, less, room)))
      (each j)

  -- so the way can still be made present
  pub ready-cleared : (p : List Tagged) (k : Key) (m : NodeNumber) → AreTree old → length new ≡ length old → node_at old p k ≡ Some m
      → HasRoomAlong old root (keys_to p k) → IsReady new root (keys_to p k)
  ready-cleared p k m tree same at room =
      let now_tree = tree-cleared front old new each same tree in
      record {
        tree = now_tree;
        within = now_tree.rooted;
        reached = subst IsSome (sym (ap (λ f. walk f root (keys_to p k)) shape ∙ (known_way old p k m at).1)) refl;
        room = λ begin rest j e w. presence_room j (room begin rest j e (ap (λ f. walk f root begin) (sym shape) ∙ w));
      }

-- What clearing does to the facts, whatever the lists show.
module _ (front : List (List ℕ × ℕ)) (old new : List Node) (tree : AreTree old) (p : List Tagged) (k : Key) (m : NodeNumber)
    (at : node_at old p k ≡ Some m) (clears : ClearsUnder front (plain old) (plain new) m) where
  pub facts_cleared : facts_of (plain new) ≡ clear_facts_at (facts_of old) p k (covers front)
  facts_cleared =
      facts-cleared front (plain old) (plain new) (tree-plain old tree) p k m (node_at-plain old p k ∙ at) clears
      ∙ ap (λ f. clear_facts_at f p k (covers front)) (facts-plain old)

  pub role_cleared : (q : List Tagged) (j : Key) (i : Id) → role_at (plain new) q j i ≡ (if is_within q j p k && covers front i then None else role_at old q j i)
  role_cleared q j i =
      role-cleared front (plain old) (plain new) (tree-plain old tree) p k m (node_at-plain old p k ∙ at) clears q j i
      ∙ ap (λ o. if is_within q j p k && covers front i then None else o) (role-plain old q j i)

  -- what its list shows of the place may be wrong then
  pub shows_presence_cleared : ((n : NodeNumber) (i : Id) → ShowsPresence old n i → ShowsPresenceBut new m n i) → HaveCandidates new → ListsShowPresenceBut old m
      → ListsShowPresenceBut new m
  shows_presence_cleared kept candidates but = (
    λ n i. ⊎_elim
        (λ there. inl (ap (λ f. f n (Element i)) (shape_of-plain old new (same_children front (plain old) (plain new) clears.each)) ∙ there))
        (λ right. kept n i right)
        (but.0 n i),
    candidates,
  )

-- An assignment step by step: the place is cleared, then the way is made present.
module _ (front : List (List ℕ × ℕ)) (id : Id) (role : Role) (old between new : List Node) (tree : AreTree old) (p : List Tagged) (k : Key) (m : NodeNumber)
    (at : node_at old p k ≡ Some m) (clears : ClearsUnder front (plain old) (plain between) m) (same : length between ≡ length old)
    (added : AddsPresenceAlong id role (plain between) (plain new) root (keys_to p k)) (also : length new ≡ length between) where
  between_shape : child_of between ≡ child_of old
  between_shape = shape_of-plain old between (same_children front (plain old) (plain between) clears.each)

  between_tree : AreTree between
  between_tree = tree_same old between same between_shape tree

  between_way : walk (child_of (plain between)) root (keys_to p k) ≡ Some m
  between_way = ap (λ f. walk f root (keys_to p k)) (child_of-plain between ∙ between_shape) ∙ (known_way old p k m at).1

  pub facts-put : facts_of new ≡ presence_facts (clear_facts_at (facts_of old) p k (covers front)) p k id
  facts-put =
      sym (facts-plain new)
      ∙ facts-made_present id role (plain between) (plain new) (tree-plain between between_tree) p k (keys_to p k) m (known_way old p k m at).0 between_way added
      ∙ ap (λ f. presence_facts f p k id) (facts_cleared front old between tree p k m at clears)

  pub role-put : (q : List Tagged) (j : Key) (i : Id) → role_at new q j i ≡ put_role (role_at old) p k (covers front) id role q j i
  role-put q j i =
      sym (role-plain new q j i)
      ∙ role-made_present id role (plain between) (plain new) (tree-plain between between_tree) p k (keys_to p k) m (known_way old p k m at).0 between_way added q j i
      ∙ ap (λ o. if is_within p k q j && id_eq id i then Some (if path_eq p q && key_eq k j then role else Through) else o) (role_cleared front old between tree p k m at clears q j i)

  pub tree-put : AreTree new
  tree-put = tree_same between new also (shape_of-plain between new added.shape) between_tree

  pub node_at-put : node_at new p k ≡ Some m
  node_at-put = ap (λ f. option_and_then (walk f root) (trail p k)) (shape_of-plain between new added.shape ∙ between_shape) ∙ at

  pub within-put : m.0 < length new
  within-put = node_within new tree-put p k m node_at-put

  pub register_room-put : length (node_of old m).register.0 < (node_of old m).register.1 → length (node_of new m).register.0 < (node_of new m).register.1
  register_room-put room =
      subst (λ z. length z.register.0 < z.register.1) (node_of-plain new m)
      (subst (λ r. length r.0 < r.1) (sym (added.kept m).0)
      (register_room front (plain old) (plain between) clears.each m (subst (λ z. length z.register.0 < z.register.1) (sym (node_of-plain old m)) room)))

  -- and its scalar is entered
  module _ (s : Scalar) (last : List Node) (is : last ≡ set new m.0 (with_scalar id s (node_of new m))) where
    pub facts-put_scalar : facts_of last ≡ put_facts (facts_of old) p k (covers front) id (Some s)
    facts-put_scalar =
        ap facts_of is ∙ facts-entered new tree-put m within-put p k id s node_at-put ∙ ap (λ f. enter_facts f p k id s) facts-put

    pub role-put_scalar : (q : List Tagged) (j : Key) (i : Id) → role_at last q j i ≡ put_role (role_at old) p k (covers front) id role q j i
    role-put_scalar q j i =
        ap (λ l. role_at l q j i) is ∙ role-set new m within-put (with_scalar id s (node_of new m)) refl refl q j i ∙ role-put q j i

    pub tree-put_scalar : AreTree last
    tree-put_scalar = subst AreTree (sym is) (tree-set new m (with_scalar id s (node_of new m)) within-put refl tree-put)

-- a place that has a node, with room on the way, is ready to be made present
pub ready-way : (nodes : List Node) → AreTree nodes → (p : List Tagged) (k : Key) (m : NodeNumber) → node_at nodes p k ≡ Some m
    → HasRoomAlong nodes root (keys_to p k) → IsReady nodes root (keys_to p k)
ready-way nodes tree p k m at room = record {
  tree = tree;
  within = tree.rooted;
  reached = subst IsSome (sym (known_way nodes p k m at).1) refl;
  room = room;
}

-- An add step by step: the way is made present, then the number is entered.
module _ (id : Id) (role : Role) (old new : List Node) (tree : AreTree old) (p : List Tagged) (k : Key) (m : NodeNumber)
    (at : node_at old p k ≡ Some m) (added : AddsPresenceAlong id role (plain old) (plain new) root (keys_to p k)) (also : length new ≡ length old) where
  present_shape : child_of new ≡ child_of old
  present_shape = shape_of-plain old new added.shape

  present_way : walk (child_of (plain old)) root (keys_to p k) ≡ Some m
  present_way = ap (λ f. walk f root (keys_to p k)) (child_of-plain old) ∙ (known_way old p k m at).1

  tree-made_present : AreTree new
  tree-made_present = tree_same old new also present_shape tree

  node_at-made_present : node_at new p k ≡ Some m
  node_at-made_present = ap (λ f. option_and_then (walk f root) (trail p k)) present_shape ∙ at

  pub within-made_present : m.0 < length new
  within-made_present = node_within new tree-made_present p k m node_at-made_present

  pub counter_room-made_present : (node_of old m).counter.1 ≡ true → (node_of new m).counter.1 ≡ true
  counter_room-made_present room =
      subst (λ z. z.counter.1 ≡ true) (node_of-plain new m)
      (subst (λ r. r.1 ≡ true) (sym (added.kept m).1) (subst (λ z. z.counter.1 ≡ true) (sym (node_of-plain old m)) room))

  module _ (a : ℤ) (last : List Node) (is : last ≡ set new m.0 (with_number id a (node_of new m))) where
    pub facts-added : facts_of last ≡ add_facts (facts_of old) p k id a
    facts-added =
        ap facts_of is ∙ facts-counted new tree-made_present m within-made_present p k id a node_at-made_present
        ∙ ap (λ f. count_facts f p k id a)
        (sym (facts-plain new)
        ∙ facts-made_present id role (plain old) (plain new) (tree-plain old tree) p k (keys_to p k) m (known_way old p k m at).0 present_way added
        ∙ ap (λ f. presence_facts f p k id) (facts-plain old))

    pub role-added : (q : List Tagged) (j : Key) (i : Id) → role_at last q j i ≡ add_role (role_at old) p k id role q j i
    role-added q j i =
        ap (λ l. role_at l q j i) is ∙ role-set new m within-made_present (with_number id a (node_of new m)) refl refl q j i
        ∙ sym (role-plain new q j i)
        ∙ role-made_present id role (plain old) (plain new) (tree-plain old tree) p k (keys_to p k) m (known_way old p k m at).0 present_way added q j i
        ∙ ap (λ o. if is_within p k q j && id_eq id i then Some (if path_eq p q && key_eq k j then role else Through) else o) (role-plain old q j i)

    pub tree-added : AreTree last
    tree-added = subst AreTree (sym is) (tree-set new m (with_number id a (node_of new m)) within-made_present refl tree-made_present)
