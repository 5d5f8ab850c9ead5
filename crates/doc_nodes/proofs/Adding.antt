-- More room in one node, and one node more, change no fact.
use Rattle.std.proofs.Common.{◌≡◌, ℕ, ℤ, ◌+◌, ◌<◌, ◌≤◌, List, [], ◌∷◌, ◌++◌, length, set, Bool, true, false, if◌then◌else◌, Option, Some, None, ◌⊎◌, inl, inr, ⊎_elim, refl, sym, ap, ◌∙◌, subst, arith, true≢false, Contains}
use Rattle.std.proofs.lemmas.List.{get_or_past, get_or_append_left, get_or_push, length_push, length-set, set-get_or}
use Rattle.std.proofs.lemmas.Bool.{cases_eq, cases_lt}
use Rattle.doc_api.specs.Words.{Id, Scalar, Key}
use Rattle.doc_api.specs.declared.role.Role.{Role}
use Rattle.crdt_rules.specs.Same.{key_eq}
use Rattle.crdt_rules.proofs.SameLaws.{key_decides}
use Rattle.doc_nodes.specs.declared.node.NodeNumber.{NodeNumber}
use Rattle.doc_nodes.specs.declared.node.Node.{Node}
use Rattle.list_laws.proofs.Members.{Contains-nil}
use Rattle.key_map.specs.Blocks.{joined}
use Rattle.key_map.specs.ByKey.{at_key}
use Rattle.doc_nodes.specs.Nodes.{blank_node, node_of, child_of, AreTree}
use Rattle.doc_nodes.specs.Growth.{Grows, with_child, AddsChild, ChangesBlocksOnly}
use Rattle.std.specs.Prelude.{insert}
use Rattle.key_map.specs.KeyOrder.{key_rank}
use Rattle.key_map.proofs.ByKeyLaws.{at_key-insert_rank}
use Rattle.doc_nodes.proofs.AddingPresence.{here-set, other-set, eq_number, shape-set, tree-set}
use Rattle.doc_nodes.proofs.AddingPresence.{unwritten}

-- a fresh node is empty
pub record IsFresh (node : Node) : Type 0 where
  pub presence : node.presence.0 ≡ []
  pub register : node.register.0 ≡ []
  pub counter : node.counter.0 ≡ []
  pub order : node.order.0 ≡ []
  pub children : node.children.0 ≡ []
  pub may_have_present_child : node.may_have_present_child ≡ false

module _ (nodes : List Node) (n : NodeNumber) (within : n.0 < length nodes) where
  no_less : (part : Node → ℕ) (node : Node) → part (node_of nodes n) ≤ part node → (j : NodeNumber) → part (node_of nodes j) ≤ part (node_of (set nodes n.0 node) j)
  no_less part node le j = ⊎_elim
      (λ e. subst (λ z. part (node_of nodes z) ≤ part (node_of (set nodes n.0 node) z)) (sym (eq_number j n e)) (subst (λ z. part (node_of nodes n) ≤ part z) (sym (here-set nodes n node within)) le))
      (λ e. subst (λ z. part (node_of nodes j) ≤ part z) (sym (other-set nodes n j node e)) (omega arith))
      (cases_eq j.0 n.0)

  no_less_room : (part : Node → Bool) (node : Node) → (part (node_of nodes n) ≡ true → part node ≡ true)
      → (j : NodeNumber) → part (node_of nodes j) ≡ true → part (node_of (set nodes n.0 node) j) ≡ true
  no_less_room part node more j room = ⊎_elim
      (λ e. subst (λ z. part (node_of (set nodes n.0 node) z) ≡ true) (sym (eq_number j n e))
      (subst (λ z. part z ≡ true) (sym (here-set nodes n node within)) (more (subst (λ z. part (node_of nodes z) ≡ true) (eq_number j n e) room))))
      (λ e. subst (λ z. part z ≡ true) (sym (other-set nodes n j node e)) room)
      (cases_eq j.0 n.0)

  -- a node that says the same with no less room
  pub record SaysTheSame (node : Node) : Type 0 where
    pub presence : node.presence.0 ≡ (node_of nodes n).presence.0
    pub register : node.register.0 ≡ (node_of nodes n).register.0
    pub counter : node.counter.0 ≡ (node_of nodes n).counter.0
    pub order : node.order.0 ≡ (node_of nodes n).order.0
    pub presence_room : (node_of nodes n).presence.1 ≡ true → node.presence.1 ≡ true
    pub register_room : (node_of nodes n).register.1 ≤ node.register.1
    pub counter_room : (node_of nodes n).counter.1 ≡ true → node.counter.1 ≡ true
    pub order_room : (node_of nodes n).order.1 ≤ node.order.1
    pub children : node.children ≡ (node_of nodes n).children
    pub may_have_present_child : node.may_have_present_child ≡ (node_of nodes n).may_have_present_child

  pub grows_room : (node : Node) → SaysTheSame node → Grows nodes (set nodes n.0 node)
  grows_room node same = record {
    size = omega (arith, length-set nodes n.0 node);
    presence = unwritten nodes n within (λ z. z.presence.0) node same.presence;
    register = unwritten nodes n within (λ z. z.register.0) node same.register;
    counter = unwritten nodes n within (λ z. z.counter.0) node same.counter;
    order = unwritten nodes n within (λ z. z.order.0) node same.order;
    candidates = λ m e there. subst (λ cs. Contains (joined cs.1) e) (sym (unwritten nodes n within (λ z. z.children) node same.children m)) there;
    may_have_present_child = unwritten nodes n within (λ z. z.may_have_present_child) node same.may_have_present_child;
    presence_room = no_less_room (λ z. z.presence.1) node same.presence_room;
    register_room = no_less (λ z. z.register.1) node same.register_room;
    counter_room = no_less_room (λ z. z.counter.1) node same.counter_room;
    order_room = no_less (λ z. z.order.1) node same.order_room;
    forward = λ m k c e. ap (λ f. f m k) (shape-set nodes n node within (ap (λ cs. cs.0) same.children)) ∙ e;
    back = λ m k c e l. ap (λ f. f m k) (sym (shape-set nodes n node within (ap (λ cs. cs.0) same.children))) ∙ e;
  }

  -- such is one with more room in one part
  module _ (node : Node) (is : node ≡ node_of nodes n) where
    pub more_presence : (part : List (Id × Role) × Bool) → part.0 ≡ node.presence.0 → (node.presence.1 ≡ true → part.1 ≡ true) → Grows nodes (set nodes n.0 (record node { presence = part }))
    more_presence part same room = grows_room (record node { presence = part }) (record {
      presence = same ∙ ap (λ (z : Node). z.presence.0) is;
      register = ap (λ (z : Node). z.register.0) is;
      counter = ap (λ (z : Node). z.counter.0) is;
      order = ap (λ (z : Node). z.order.0) is;
      presence_room = λ was. room (ap (λ (z : Node). z.presence.1) is ∙ was);
      register_room = omega (arith, ap (λ (z : Node). z.register.1) is);
      counter_room = λ was. ap (λ (z : Node). z.counter.1) is ∙ was;
      order_room = omega (arith, ap (λ (z : Node). z.order.1) is);
      children = ap (λ (z : Node). z.children) is;
      may_have_present_child = ap (λ (z : Node). z.may_have_present_child) is;
    })

    pub more_register : (part : List (Id × Scalar) × ℕ) → part.0 ≡ node.register.0 → node.register.1 ≤ part.1 → Grows nodes (set nodes n.0 (record node { register = part }))
    more_register part same room = grows_room (record node { register = part }) (record {
      presence = ap (λ (z : Node). z.presence.0) is;
      register = same ∙ ap (λ (z : Node). z.register.0) is;
      counter = ap (λ (z : Node). z.counter.0) is;
      order = ap (λ (z : Node). z.order.0) is;
      presence_room = λ was. ap (λ (z : Node). z.presence.1) is ∙ was;
      register_room = omega (arith, room, ap (λ (z : Node). z.register.1) is);
      counter_room = λ was. ap (λ (z : Node). z.counter.1) is ∙ was;
      order_room = omega (arith, ap (λ (z : Node). z.order.1) is);
      children = ap (λ (z : Node). z.children) is;
      may_have_present_child = ap (λ (z : Node). z.may_have_present_child) is;
    })

    pub more_counter : (part : List (Id × ℤ) × Bool) → part.0 ≡ node.counter.0 → (node.counter.1 ≡ true → part.1 ≡ true) → Grows nodes (set nodes n.0 (record node { counter = part }))
    more_counter part same room = grows_room (record node { counter = part }) (record {
      presence = ap (λ (z : Node). z.presence.0) is;
      register = ap (λ (z : Node). z.register.0) is;
      counter = same ∙ ap (λ (z : Node). z.counter.0) is;
      order = ap (λ (z : Node). z.order.0) is;
      presence_room = λ was. ap (λ (z : Node). z.presence.1) is ∙ was;
      register_room = omega (arith, ap (λ (z : Node). z.register.1) is);
      counter_room = λ was. room (ap (λ (z : Node). z.counter.1) is ∙ was);
      order_room = omega (arith, ap (λ (z : Node). z.order.1) is);
      children = ap (λ (z : Node). z.children) is;
      may_have_present_child = ap (λ (z : Node). z.may_have_present_child) is;
    })

    pub more_order : (part : List (Id × Bool) × ℕ) → part.0 ≡ node.order.0 → node.order.1 ≤ part.1 → Grows nodes (set nodes n.0 (record node { order = part }))
    more_order part same room = grows_room (record node { order = part }) (record {
      presence = ap (λ (z : Node). z.presence.0) is;
      register = ap (λ (z : Node). z.register.0) is;
      counter = ap (λ (z : Node). z.counter.0) is;
      order = same ∙ ap (λ (z : Node). z.order.0) is;
      presence_room = λ was. ap (λ (z : Node). z.presence.1) is ∙ was;
      register_room = omega (arith, ap (λ (z : Node). z.register.1) is);
      counter_room = λ was. ap (λ (z : Node). z.counter.1) is ∙ was;
      order_room = omega (arith, room, ap (λ (z : Node). z.order.1) is);
      children = ap (λ (z : Node). z.children) is;
      may_have_present_child = ap (λ (z : Node). z.may_have_present_child) is;
    })

-- where no child is added, blocks may still be cut
module _ (nodes new : List Node) (n : NodeNumber) (within : n.0 < length nodes) (only : ChangesBlocksOnly nodes new n) where
  abbrev changed : Node
  changed = record (node_of nodes n) { children = ((node_of nodes n).children.0, only.blocks) }

  blocks_shape : child_of (set nodes n.0 (record (node_of nodes n) { children = ((node_of nodes n).children.0, only.blocks) })) ≡ child_of nodes
  blocks_shape = shape-set nodes n (record (node_of nodes n) { children = ((node_of nodes n).children.0, only.blocks) }) within refl

  pub tree_cut : AreTree nodes → AreTree new
  tree_cut tree = subst AreTree (sym only.is) (tree-set nodes n (record (node_of nodes n) { children = ((node_of nodes n).children.0, only.blocks) }) within refl tree)

  pub length_cut : length new ≡ length nodes
  length_cut = ap length only.is ∙ length-set nodes n.0 changed

  same_but_blocks : {X : Type 0} (part : Node → X) → part changed ≡ part (node_of nodes n) → (j : NodeNumber) → part (node_of new j) ≡ part (node_of nodes j)
  same_but_blocks part same j = ap (λ l. part (node_of l j)) only.is ∙ unwritten nodes n within part changed same j

  pub grows_cut : Grows nodes new
  grows_cut = record {
    size = omega (arith, length_cut);
    presence = same_but_blocks (λ z. z.presence.0) refl;
    register = same_but_blocks (λ z. z.register.0) refl;
    counter = same_but_blocks (λ z. z.counter.0) refl;
    order = same_but_blocks (λ z. z.order.0) refl;
    candidates = λ j e there. subst (λ l. Contains (joined (node_of l j).children.1) e) (sym only.is) (⊎_elim
        (λ same. subst (λ z. Contains (joined (node_of (set nodes n.0 changed) z).children.1) e) (sym (eq_number j n same))
        (subst (λ z. Contains (joined z.children.1) e) (sym (here-set nodes n changed within))
        (only.kept e (subst (λ z. Contains (joined (node_of nodes z).children.1) e) (eq_number j n same) there))))
        (λ apart. subst (λ z. Contains (joined z.children.1) e) (sym (other-set nodes n j changed apart)) there)
        (cases_eq j.0 n.0));
    may_have_present_child = same_but_blocks (λ z. z.may_have_present_child) refl;
    presence_room = λ j room. ap (λ p. p.1) (same_but_blocks (λ z. z.presence) refl j) ∙ room;
    register_room = λ j. omega (arith, same_but_blocks (λ z. z.register.1) refl j);
    counter_room = λ j room. ap (λ p. p.1) (same_but_blocks (λ z. z.counter) refl j) ∙ room;
    order_room = λ j. omega (arith, same_but_blocks (λ z. z.order.1) refl j);
    forward = λ m k c e. ap (λ f. f m k) (ap child_of only.is ∙ blocks_shape) ∙ e;
    back = λ m k c e l. ap (λ f. f m k) (sym (ap child_of only.is ∙ blocks_shape)) ∙ e;
  }

module _ (nodes : List Node) (tree : AreTree nodes) (n : NodeNumber) (within : n.0 < length nodes) (k : Key) (none : child_of nodes n k ≡ None)
    (number : NodeNumber) (next : number.0 ≡ length nodes) (fresh : Node) (is_fresh : IsFresh fresh)
    (blocks : List (List (Key × NodeNumber))) (kept : (e : Key × NodeNumber) → Contains (joined (node_of nodes n).children.1) e → Contains (joined blocks) e) where
  abbrev written : List Node
  written = set nodes n.0 (with_child k number blocks (node_of nodes n))

  abbrev added : List Node
  added = set nodes n.0 (with_child k number blocks (node_of nodes n)) ++ fresh ∷ []

  -- which node has a number
  before : (j : NodeNumber) → j.0 < length nodes → node_of added j ≡ node_of written j
  before j l = get_or_append_left written (fresh ∷ []) blank_node j.0 (omega (arith, length-set nodes n.0 (with_child k number blocks (node_of nodes n)), l))

  at_number : (j : NodeNumber) → j.0 ≡ length nodes → node_of added j ≡ fresh
  at_number j e = get_or_push written fresh blank_node j.0 (length-set nodes n.0 (with_child k number blocks (node_of nodes n)) ∙ sym e)

  past : (j : NodeNumber) → length nodes < j.0 → node_of added j ≡ blank_node
  past j l = get_or_past added j.0 blank_node (omega (arith, length_push written fresh, length-set nodes n.0 (with_child k number blocks (node_of nodes n)), l))

  missing : (j : NodeNumber) → length nodes ≤ j.0 → node_of nodes j ≡ blank_node
  missing j l = get_or_past nodes j.0 blank_node l

  -- what a part says that the new child does not touch
  same_part : {X : Type 0} (part : Node → X) → part (with_child k number blocks (node_of nodes n)) ≡ part (node_of nodes n) → part fresh ≡ part blank_node
      → (j : NodeNumber) → part (node_of added j) ≡ part (node_of nodes j)
  same_part part kept empty j = ⊎_elim
      (λ l. ap part (before j l) ∙ unwritten nodes n within part (with_child k number blocks (node_of nodes n)) kept j)
      (λ l. ⊎_elim
      (λ e. ap part (at_number j e) ∙ empty ∙ ap part (sym (missing j l)))
      (λ ne. ap part (past j (omega (arith, l, ne))) ∙ ap part (sym (missing j l)))
      (cases_eq j.0 (length nodes)))
      (cases_lt j.0 (length nodes))

  fewer : (part : Node → ℕ) → part (with_child k number blocks (node_of nodes n)) ≡ part (node_of nodes n) → part blank_node ≡ 0
      → (j : NodeNumber) → part (node_of nodes j) ≤ part (node_of added j)
  fewer part kept zero j = ⊎_elim
      (λ l. omega (arith, ap part (before j l), unwritten nodes n within part (with_child k number blocks (node_of nodes n)) kept j))
      (λ l. omega (arith, ap part (missing j l), zero))
      (cases_lt j.0 (length nodes))

  no_fewer : (part : Node → Bool) → part (with_child k number blocks (node_of nodes n)) ≡ part (node_of nodes n) → part blank_node ≡ false
      → (j : NodeNumber) → part (node_of nodes j) ≡ true → part (node_of added j) ≡ true
  no_fewer part kept none j room = ⊎_elim
      (λ l. ap part (before j l) ∙ unwritten nodes n within part (with_child k number blocks (node_of nodes n)) kept j ∙ room)
      (λ l. absurd (true≢false (sym room ∙ ap part (missing j l) ∙ none)))
      (cases_lt j.0 (length nodes))

  -- the children are the old ones and the new one
  child_added : (j : NodeNumber) (q : Key) (c : NodeNumber) → child_of added j q ≡ Some c → (child_of nodes j q ≡ Some c) ⊎ ((j ≡ n) × (k ≡ q) × (c ≡ number))
  child_added j q c e = ⊎_elim
      (λ l. ⊎_elim
      (λ same. at_parent (eq_number j n same) (sym (ap (λ z. at_key z.children.0 q) (before j l)) ∙ e))
      (λ apart. inl (sym (ap (λ z. at_key z.children.0 q) (before j l ∙ other-set nodes n j (with_child k number blocks (node_of nodes n)) apart)) ∙ e))
      (cases_eq j.0 n.0))
      (λ l. ⊎_elim
      (λ same. let void : ◌≡◌ {A = Option NodeNumber} None (Some c) = sym (ap (λ z. at_key z.children.0 q) (at_number j same) ∙ ap (λ z. at_key z q) is_fresh.children) ∙ e in cc)
      (λ apart. let void : ◌≡◌ {A = Option NodeNumber} None (Some c) = sym (ap (λ z. at_key z.children.0 q) (past j (omega (arith, l, apart)))) ∙ e in cc)
      (cases_eq j.0 (length nodes)))
      (cases_lt j.0 (length nodes))
    where
      chosen : (b : Bool) → (b ≡ true → k ≡ q) → (if b then Some number else child_of nodes n q) ≡ Some c → (child_of nodes n q ≡ Some c) ⊎ ((k ≡ q) × (c ≡ number))
      chosen true same f = inr (same refl, cc)
      chosen false same f = inl f

      at_parent : j ≡ n → child_of (set nodes n.0 (with_child k number blocks (node_of nodes n))) j q ≡ Some c → (child_of nodes j q ≡ Some c) ⊎ ((j ≡ n) × (k ≡ q) × (c ≡ number))
      at_parent same f =
          let here : child_of (set nodes n.0 (with_child k number blocks (node_of nodes n))) n q ≡ Some c = subst (λ z. child_of (set nodes n.0 (with_child k number blocks (node_of nodes n))) z q ≡ Some c) same f in
          let pushed : (if key_eq k q then Some number else child_of nodes n q) ≡ Some c =
          sym (ap (λ z. at_key z.children.0 q) (here-set nodes n (with_child k number blocks (node_of nodes n)) within) ∙ at_key-insert_rank (node_of nodes n).children.0 k number q none) ∙ here in
          ⊎_elim
          (λ g. inl (subst (λ z. child_of nodes z q ≡ Some c) (sym same) g))
          (λ g. inr (same, g.0, g.1))
          (chosen (key_eq k q) (key_decides.same k q) pushed)

  child_kept : (j : NodeNumber) (q : Key) (c : NodeNumber) → child_of nodes j q ≡ Some c → child_of added j q ≡ Some c
  child_kept j q c e = ⊎_elim
      (λ l. ⊎_elim
      (λ same. ap (λ z. at_key z.children.0 q) (before j l) ∙ at_parent (eq_number j n same))
      (λ apart. ap (λ z. at_key z.children.0 q) (before j l ∙ other-set nodes n j (with_child k number blocks (node_of nodes n)) apart) ∙ e)
      (cases_eq j.0 n.0))
      (λ l. let void : ◌≡◌ {A = Option NodeNumber} None (Some c) = sym (ap (λ z. at_key z.children.0 q) (missing j l)) ∙ e in absurd (cc))
      (cases_lt j.0 (length nodes))
    where
      chosen : (b : Bool) → (b ≡ true → k ≡ q) → child_of nodes n q ≡ Some c → (if b then Some number else child_of nodes n q) ≡ Some c
      chosen true same f = let void : ◌≡◌ {A = Option NodeNumber} None (Some c) = sym (subst (λ z. child_of nodes n z ≡ None) (same refl) none) ∙ f in absurd (cc)
      chosen false same f = f

      at_parent : j ≡ n → child_of (set nodes n.0 (with_child k number blocks (node_of nodes n))) j q ≡ Some c
      at_parent same =
          subst (λ z. child_of (set nodes n.0 (with_child k number blocks (node_of nodes n))) z q ≡ Some c) (sym same)
          (ap (λ z. at_key z.children.0 q) (here-set nodes n (with_child k number blocks (node_of nodes n)) within)
          ∙ at_key-insert_rank (node_of nodes n).children.0 k number q none
          ∙ chosen (key_eq k q) (key_decides.same k q) (subst (λ z. child_of nodes z q ≡ Some c) same e))

  longer : length added ≡ length nodes + 1
  longer = length_push written fresh ∙ ap (λ z. z + 1) (length-set nodes n.0 (with_child k number blocks (node_of nodes n)))

  pub tree_added : AreTree added
  tree_added = record {
    rooted = omega (arith, longer);
    rising = λ j q c e. ⊎_elim (tree.rising j q c) (λ h. omega (arith, ap (λ z. z.0) h.0, ap (λ z. z.0) h.2, next, within)) (child_added j q c e);
    within = λ j q c e. ⊎_elim (λ h. omega (arith, tree.within j q c h, longer)) (λ h. omega (arith, ap (λ z. z.0) h.2, next, longer)) (child_added j q c e);
    unique = λ i j q r c e f. ⊎_elim
        (λ g. ⊎_elim
        (λ h. tree.unique i j q r c g h)
        (λ h. absurd (omega (arith, tree.within i q c g, ap (λ z. z.0) h.2, next)))
        (child_added j r c f))
        (λ g. ⊎_elim
        (λ h. absurd (omega (arith, tree.within j r c h, ap (λ z. z.0) g.2, next)))
        (λ h. (g.0 ∙ sym h.0, sym g.1 ∙ h.1))
        (child_added j r c f))
        (child_added i q c e);
  }

  still_there : (j : NodeNumber) (e : Key × NodeNumber) → Contains (joined (node_of nodes j).children.1) e → Contains (joined (node_of added j).children.1) e
  still_there j e there = ⊎_elim
      (λ l. subst (λ z. Contains (joined z.children.1) e) (sym (before j l)) (⊎_elim
      (λ same. subst (λ z. Contains (joined (node_of written z).children.1) e) (sym (eq_number j n same))
      (subst (λ z. Contains (joined z.children.1) e) (sym (here-set nodes n (with_child k number blocks (node_of nodes n)) within))
      (kept e (subst (λ z. Contains (joined (node_of nodes z).children.1) e) (eq_number j n same) there))))
      (λ apart. subst (λ z. Contains (joined z.children.1) e) (sym (other-set nodes n j (with_child k number blocks (node_of nodes n)) apart)) there)
      (cases_eq j.0 n.0)))
      (λ l. absurd (Contains-nil (subst (λ z. Contains (joined z.children.1) e) (missing j l) there)))
      (cases_lt j.0 (length nodes))

  pub grows_added : Grows nodes added
  grows_added = record {
    size = omega (arith, longer);
    presence = same_part (λ z. z.presence.0) refl is_fresh.presence;
    register = same_part (λ z. z.register.0) refl is_fresh.register;
    counter = same_part (λ z. z.counter.0) refl is_fresh.counter;
    order = same_part (λ z. z.order.0) refl is_fresh.order;
    candidates = still_there;
    may_have_present_child = same_part (λ z. z.may_have_present_child) refl is_fresh.may_have_present_child;
    presence_room = no_fewer (λ z. z.presence.1) refl refl;
    register_room = fewer (λ z. z.register.1) refl refl;
    counter_room = no_fewer (λ z. z.counter.1) refl refl;
    order_room = fewer (λ z. z.order.1) refl refl;
    forward = child_kept;
    back = λ j q c e l. ⊎_elim (λ h. h) (λ h. absurd (omega (arith, ap (λ z. z.0) h.2, next, l))) (child_added j q c e);
  }

  pub child_new : child_of added n k ≡ Some number
  child_new =
      ap (λ z. at_key z.children.0 k) (before n within ∙ here-set nodes n (with_child k number blocks (node_of nodes n)) within)
      ∙ at_key-insert_rank (node_of nodes n).children.0 k number k none
      ∙ (let own : key_eq k k ≡ true = key_decides.itself k in rw own)

-- what the call of an insertion comes to
pub nothing_changed : (nodes : List Node) (n : NodeNumber) → ChangesBlocksOnly nodes nodes n
nothing_changed nodes n = record { blocks = (node_of nodes n).children.1; kept = λ e there. there; is = sym (set-get_or nodes n.0 blank_node) }

module _ (nodes : List Node) (n : NodeNumber) (within : n.0 < length nodes) (node : Node) (read : node ≡ node_of nodes n) where
  pub cut_from : (children : List (Key × NodeNumber) × List (List (Key × NodeNumber))) → children.0 ≡ node.children.0
      → ((e : Key × NodeNumber) → Contains (joined node.children.1) e → Contains (joined children.1) e)
      → ChangesBlocksOnly nodes (set nodes n.0 (record node { children = children })) n
  cut_from children same kept = record {
    blocks = children.1;
    kept = λ e there. kept e (subst (λ z. Contains (joined z.children.1) e) (sym read) there);
    is = λ i. set nodes n.0 (record (read i) { children = ((same ∙ ap (λ z. z.children.0) read) i, children.1) });
  }

  pub added_from : (k : Key) (fresh : Node) (children : List (Key × NodeNumber) × List (List (Key × NodeNumber))) (number : NodeNumber)
      → number ≡ record { 0 = length nodes } → children.0 ≡ insert node.children.0 (key_rank node.children.0 k) (k, number)
      → ((e : Key × NodeNumber) → Contains (joined node.children.1) e → Contains (joined children.1) e)
      → (new : List Node) → new ≡ set nodes n.0 (record node { children = children }) ++ fresh ∷ [] → AddsChild nodes new n k fresh
  added_from k fresh children number next is kept new steps = record {
    blocks = children.1;
    kept = λ e there. kept e (subst (λ z. Contains (joined z.children.1) e) (sym read) there);
    is = steps ∙ (λ i. set nodes n.0 (record (read i) { children = (whole i, children.1) }) ++ fresh ∷ []);
  }
    where
      whole : children.0 ≡ insert (node_of nodes n).children.0 (key_rank (node_of nodes n).children.0 k) (k, record { 0 = length nodes })
      whole = is ∙ (λ i. insert (read i).children.0 (key_rank (read i).children.0 k) (k, next i))
