-- One node after another is made present.
use Rattle.std.proofs.Common.{◌≡◌, ◌≢◌, ◌<◌, List, [], ◌∷◌, ◌++◌, length, set, Option, Some, None, inl, inr, ⊎_elim, refl, sym, ap, ◌∙◌, subst, arith, true}
use Rattle.std.proofs.lemmas.List.{get_or-set_same, get_or-set_other, length-set}
use Rattle.std.proofs.lemmas.Bool.{cases_eq}
use Rattle.std.specs.Prelude.{IsSome, option_and_then}
use mathlib.Core.Path.{fun_ext}
use Rattle.doc_api.specs.Words.{Id, Key}
use Rattle.doc_api.specs.declared.role.Role.{Role}
use Rattle.doc_api.specs.declared.role.Role.TheVariants.{Through}
use Rattle.doc_nodes.specs.declared.node.NodeNumber.{NodeNumber}
use Rattle.doc_nodes.specs.declared.node.Node.{Node}
use Rattle.key_map.specs.ByKey.{at_key}
use Rattle.doc_nodes.specs.Walk.{walk, IsTree}
use Rattle.doc_nodes.specs.Nodes.{blank_node, node_of, child_of, AreTree}
use Rattle.doc_nodes.specs.PresenceAlong.{made_present, role_before, AddsPresenceAlong, HasRoomAlong, IsReady}
use Rattle.doc_nodes.proofs.Walks.{parts_of, walk_rises}

-- one node is written
pub here-set : (nodes : List Node) (n : NodeNumber) (node : Node) → n.0 < length nodes → node_of (set nodes n.0 node) n ≡ node
here-set nodes n node within = get_or-set_same nodes n.0 node blank_node within

pub other-set : (nodes : List Node) (n j : NodeNumber) (node : Node) → j.0 ≢ n.0 → node_of (set nodes n.0 node) j ≡ node_of nodes j
other-set nodes n j node apart = get_or-set_other nodes n.0 j.0 node blank_node apart

pub eq_number : (j n : NodeNumber) → j.0 ≡ n.0 → j ≡ n
eq_number j n e = λ i. record { 0 = e i }

-- what a node says elsewhere, or in a part that is not written
pub unwritten : (nodes : List Node) (n : NodeNumber) → n.0 < length nodes → {X : Type 0} (part : Node → X) (node : Node) → part node ≡ part (node_of nodes n) → (c : NodeNumber)
    → part (node_of (set nodes n.0 node) c) ≡ part (node_of nodes c)
unwritten nodes n within part node same c = ⊎_elim
    (λ e. subst (λ z. part (node_of (set nodes n.0 node) z) ≡ part (node_of nodes z)) (sym (eq_number c n e)) (ap part (here-set nodes n node within) ∙ same))
    (λ e. ap part (other-set nodes n c node e))
    (cases_eq c.0 n.0)

-- where the children of the written node stay, the tree keeps its shape
pub shape-set : (nodes : List Node) (n : NodeNumber) (node : Node) → n.0 < length nodes → node.children.0 ≡ (node_of nodes n).children.0
    → child_of (set nodes n.0 node) ≡ child_of nodes
shape-set nodes n node within same = fun_ext (λ j. fun_ext (λ k. ap (λ cs. at_key cs k) (at j)))
  where
    at : (j : NodeNumber) → (node_of (set nodes n.0 node) j).children.0 ≡ (node_of nodes j).children.0
    at j = ⊎_elim
        (λ e. subst (λ z. (node_of (set nodes n.0 node) z).children.0 ≡ (node_of nodes z).children.0) (sym (eq_number j n e)) (ap (λ z. z.children.0) (here-set nodes n node within) ∙ same))
        (λ e. ap (λ z. z.children.0) (other-set nodes n j node e))
        (cases_eq j.0 n.0)

pub kept-set : (nodes : List Node) (n : NodeNumber) (node : Node) → n.0 < length nodes → node.register ≡ (node_of nodes n).register → node.counter ≡ (node_of nodes n).counter → node.order ≡ (node_of nodes n).order
    → (j : NodeNumber) → ((node_of (set nodes n.0 node) j).register ≡ (node_of nodes j).register) × ((node_of (set nodes n.0 node) j).counter ≡ (node_of nodes j).counter) × ((node_of (set nodes n.0 node) j).order ≡ (node_of nodes j).order)
kept-set nodes n node within same too also j = ⊎_elim
    (λ e. subst (λ z. ((node_of (set nodes n.0 node) z).register ≡ (node_of nodes z).register) × ((node_of (set nodes n.0 node) z).counter ≡ (node_of nodes z).counter) × ((node_of (set nodes n.0 node) z).order ≡ (node_of nodes z).order)) (sym (eq_number j n e))
    (ap (λ z. z.register) (here-set nodes n node within) ∙ same, ap (λ z. z.counter) (here-set nodes n node within) ∙ too, ap (λ z. z.order) (here-set nodes n node within) ∙ also))
    (λ e. (ap (λ z. z.register) (other-set nodes n j node e), ap (λ z. z.counter) (other-set nodes n j node e), ap (λ z. z.order) (other-set nodes n j node e)))
    (cases_eq j.0 n.0)

pub tree-set : (nodes : List Node) (n : NodeNumber) (node : Node) → n.0 < length nodes → node.children.0 ≡ (node_of nodes n).children.0 → AreTree nodes → AreTree (set nodes n.0 node)
tree-set nodes n node within same tree =
    subst (λ f. IsTree f (length (set nodes n.0 node))) (sym (shape-set nodes n node within same))
    (subst (λ z. IsTree (child_of nodes) z) (sym (length-set nodes n.0 node)) tree)

-- what a walk that gets somewhere begins with
pub first_step : (nodes : List Node) (n : NodeNumber) (k : Key) (keys : List Key) → IsSome (walk (child_of nodes) n (k ∷ keys))
    → (c : NodeNumber) × (child_of nodes n k ≡ Some c) × IsSome (walk (child_of nodes) c keys)
first_step nodes n k keys some = go (child_of nodes n k) refl some
  where
    go : (o : Option NodeNumber) → child_of nodes n k ≡ o → IsSome (option_and_then (λ m. walk (child_of nodes) m keys) o)
        → (c : NodeNumber) × (child_of nodes n k ≡ Some c) × IsSome (walk (child_of nodes) c keys)
    go None e h = absurd (cc)
    go (Some c) e h = (c, e, h)

module _ (id : Id) (role : Role) (nodes : List Node) (n : NodeNumber) (within : n.0 < length nodes) where
  -- the end of the way
  pub presence_end : AddsPresenceAlong id role nodes (set nodes n.0 (made_present id role (node_of nodes n))) n []
  presence_end = record {
    along = at;
    outside = λ j off. other-set nodes n j (made_present id role (node_of nodes n)) (λ e. off [] [] refl (ap Some (sym (eq_number j n e))));
    changed = λ j. ⊎_elim (λ e. inr ([], [], refl, ap Some (sym (eq_number j n e)))) (λ e. inl (other-set nodes n j (made_present id role (node_of nodes n)) e)) (cases_eq j.0 n.0);
    shape = shape-set nodes n (made_present id role (node_of nodes n)) within refl;
    kept = kept-set nodes n (made_present id role (node_of nodes n)) within refl refl refl;
  }
    where
      at : (front rest : List Key) (j : NodeNumber) → [] ≡ front ++ rest → walk (child_of nodes) n front ≡ Some j
          → node_of (set nodes n.0 (made_present id role (node_of nodes n))) j ≡ made_present id (role_before rest role) (node_of nodes j)
      at [] [] j e w =
          let same : n ≡ j = cc in
          subst (λ z. node_of (set nodes n.0 (made_present id role (node_of nodes n))) z ≡ made_present id role (node_of nodes z)) same (here-set nodes n (made_present id role (node_of nodes n)) within)
      at [] (k ∷ rest) j e w = cc
      at (k ∷ front) rest j e w = cc

  -- a step on the way
  pub presence_step : AreTree nodes → (k : Key) (keys : List Key) (c : NodeNumber) (new : List Node) → child_of nodes n k ≡ Some c
      → AddsPresenceAlong id role (set nodes n.0 (made_present id Through (node_of nodes n))) new c keys → AddsPresenceAlong id role nodes new n (k ∷ keys)
  presence_step tree k keys c new down added = record {
    along = at;
    outside = λ j off.
        added.outside j (λ front rest e w. off (k ∷ front) rest (ap (λ l. k ∷ l) e) (rw down (ap (λ f. walk f c front) (sym same_shape) ∙ w)))
        ∙ other-set nodes n j passed (λ e. off [] (k ∷ keys) refl (ap Some (sym (eq_number j n e))));
    changed = λ j. ⊎_elim
        (λ still. ⊎_elim
        (λ e. inr ([], k ∷ keys, refl, ap Some (sym (eq_number j n e))))
        (λ e. inl (still ∙ other-set nodes n j passed e))
        (cases_eq j.0 n.0))
        (λ way. inr (k ∷ way.0, way.1, ap (λ l. k ∷ l) way.2, rw down (ap (λ f. walk f c way.0) (sym same_shape) ∙ way.3)))
        (added.changed j);
    shape = added.shape ∙ same_shape;
    kept = λ j.
        let one = kept-set nodes n (made_present id Through (node_of nodes n)) within refl refl refl j in
        let rest = added.kept j in
        (rest.0 ∙ one.0, rest.1 ∙ one.1, rest.2 ∙ one.2);
  }
    where
      passed : Node
      passed = made_present id Through (node_of nodes n)

      same_shape : child_of (set nodes n.0 (made_present id Through (node_of nodes n))) ≡ child_of nodes
      same_shape = shape-set nodes n (made_present id Through (node_of nodes n)) within refl

      at : (front rest : List Key) (j : NodeNumber) → k ∷ keys ≡ front ++ rest → walk (child_of nodes) n front ≡ Some j
          → node_of new j ≡ made_present id (role_before rest role) (node_of nodes j)
      at [] rest j e w =
          let same : n ≡ j = cc in
          let still = added.outside n (λ front more f g. absurd (omega (arith, tree.rising n k c down, walk_rises (child_of nodes) tree c n front (ap (λ h. walk h c front) (sym same_shape) ∙ g)))) in
          subst (λ z. node_of new z ≡ made_present id (role_before rest role) (node_of nodes z)) same
          (still ∙ here-set nodes n (made_present id Through (node_of nodes n)) within ∙ ap (λ r. made_present id (role_before r role) (node_of nodes n)) e)
      at (i ∷ front) rest j e w =
          let first : k ≡ i = cc in
          let more : keys ≡ front ++ rest = cc in
          let below : walk (child_of nodes) c front ≡ Some j =
          let step = parts_of (child_of nodes) (λ m. walk (child_of nodes) m front) (child_of nodes n i) j w in
          let alike : ◌≡◌ {A = Option NodeNumber} (Some c) (Some step.0) = sym down ∙ ap (child_of nodes n) first ∙ step.1 in
          let same : c ≡ step.0 = cc in
          subst (λ z. walk (child_of nodes) z front ≡ Some j) (sym same) step.2 in
          added.along front rest j more (ap (λ h. walk h c front) same_shape ∙ below)
          ∙ ap (made_present id (role_before rest role)) (other-set nodes n j passed (λ f. absurd (omega (arith, tree.rising n k c down, walk_rises (child_of nodes) tree c j front below, f))))

  -- the rest of the way has room still
  pub room_step : AreTree nodes → (k : Key) (keys : List Key) (c : NodeNumber) → child_of nodes n k ≡ Some c
      → HasRoomAlong nodes n (k ∷ keys) → HasRoomAlong (set nodes n.0 (made_present id role (node_of nodes n))) c keys
  room_step tree k keys c down room front rest j e w =
      let same_shape = shape-set nodes n (made_present id role (node_of nodes n)) within refl in
      let below : walk (child_of nodes) c front ≡ Some j = ap (λ h. walk h c front) (sym same_shape) ∙ w in
      let other = other-set nodes n j (made_present id role (node_of nodes n)) (λ f. absurd (omega (arith, tree.rising n k c down, walk_rises (child_of nodes) tree c j front below, f))) in
      subst (λ z. z.presence.1 ≡ true) (sym other) (room (k ∷ front) rest j (ap (λ l. k ∷ l) e) (rw down below))

-- Once n is made present, the way goes on from its child.
pub step_down : (id : Id) (nodes new : List Node) (n c : NodeNumber) (k : Key) (keys : List Key) → IsReady nodes n (k ∷ keys)
    → new ≡ set nodes n.0 (made_present id Through (node_of nodes n)) → child_of new n k ≡ Some c → IsReady new c keys
step_down id nodes new n c k keys ready is down =
    subst (λ l. IsReady l c keys) (sym is)
    (record {
      tree = tree-set nodes n (made_present id Through (node_of nodes n)) ready.within refl ready.tree;
      within = subst (λ z. c.0 < z) (sym (length-set nodes n.0 (made_present id Through (node_of nodes n)))) (ready.tree.within n k c before);
      reached = subst (λ f. IsSome (walk f c keys)) (sym same_shape) (subst (λ z. IsSome (walk (child_of nodes) z keys)) same first.2);
      room = room_step id Through nodes n ready.within ready.tree k keys c before ready.room;
    })
  where
    same_shape : child_of (set nodes n.0 (made_present id Through (node_of nodes n))) ≡ child_of nodes
    same_shape = shape-set nodes n (made_present id Through (node_of nodes n)) ready.within refl

    before : child_of nodes n k ≡ Some c
    before = ap (λ f. f n k) (sym (ap child_of is ∙ same_shape)) ∙ down

    first : (c : NodeNumber) × (child_of nodes n k ≡ Some c) × IsSome (walk (child_of nodes) c keys)
    first = first_step nodes n k keys ready.reached

    same : (first_step nodes n k keys ready.reached).0 ≡ c
    same = let both : ◌≡◌ {A = Option NodeNumber} (Some (first_step nodes n k keys ready.reached).0) (Some c) = sym (first_step nodes n k keys ready.reached).1 ∙ before in cc

pub child_before : (id : Id) (nodes new : List Node) (n c : NodeNumber) (k : Key) → n.0 < length nodes
    → new ≡ set nodes n.0 (made_present id Through (node_of nodes n)) → child_of new n k ≡ Some c → child_of nodes n k ≡ Some c
child_before id nodes new n c k within is down =
    ap (λ f. f n k) (sym (ap child_of is ∙ shape-set nodes n (made_present id Through (node_of nodes n)) within refl)) ∙ down
