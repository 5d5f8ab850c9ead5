use Rattle.std.proofs.Common.{◌≡◌, ◌<◌, ◌+◌, [], ◌∷◌, ◌++◌, append-nil, append_assoc, false, rules, refl, ◌∙◌, inl, inr, ⊎_elim, sym, ap, subst, set, length, get_or, take, Contains, Some, arith}
use Rattle.std.proofs.lemmas.List.{get_or_default, get_or-set_same, length-set, take_all}
use Rattle.list_laws.proofs.Reading.{take_read}
use Rattle.op_core.specs.declared.cursor.Key.TheVariants.{Element, Head}
use Rattle.doc_nodes.specs.declared.node.Node.{Node}
use Rattle.crdt_rules.specs.Context.{reference}
use Rattle.key_map.specs.Blocks.{joined}
use Rattle.doc_nodes.specs.Nodes.{blank_node, node_of, child_of, cleared, IsPartCleared, ClearsUnder, ClearsFirst}
use Rattle.doc_nodes.specs.HasPresence.{HavePresenceFrom}
use Rattle.doc_nodes.specs.ListPresence.{plain, with_list_presence, ShowsPresence, ShowsPresenceBut, HaveCandidates}
use Rattle.doc_nodes.proofs.Clearing.{none_yet, one_more, each-each, same_children}
use Rattle.key_map.proofs.Gone.{taken-more}
use Rattle.doc_nodes.proofs.Plain.{child_of-plain, length-plain, shape_of-plain, write-plain, list_presence-plain, tree_same}
use Rattle.doc_nodes.proofs.HasPresence.{has_presence_from, has_presence-same, has_presence-first, has_presence-cleared, clears-absent, clears-childless, clears-all}
use Rattle.doc_nodes.proofs.AddingPresence.{here-set, other-set}
use Rattle.doc_nodes.proofs.ListPresence.{shows_presence-set, list_presence-but, list_presence-shape, list_presence-candidate, list_presence-children, candidates-set, some_uncovered, blocks-facts, blocks-shows_but, blocks-here, blocks-other, candidates-dropped}
use Rattle.doc_nodes.proofs.clear.+clearing.Goals as goal

-- ---- a block

pub clear_block-loop-i-init : goal.clear_block-loop-i-init
clear_block-loop-i-init t c =
    let nodes = c.args.nodes.now in
    let block : length c.block-count.result.now ≡ length (get_or (node_of nodes c.args.at).children.1 c.args.block []) =
    ap length (c.block-count.ensures.value ∙ ap (λ z. get_or z.children.1 c.args.block []) (get_or_default nodes c.args.at.0 c.index-nodes-at.result blank_node c.requires.known)) in (
      λ old done first. subst (λ l. ClearsFirst c.args.front.now old (plain nodes) c.args.at l) (sym (append-nil done)) first,
      block,
      λ n i right. right,
      c.requires.has_presence,
      c.requires.candidates,
      λ n less. refl,
      λ j. inl refl,
    )

pub clear_block-child_at-element-requires-clause-within : goal.clear_block-child_at-element-requires-clause-within
clear_block-child_at-element-requires-clause-within t c =
    let nodes = c.args.nodes.now in
    let now = c.loop-i.nodes in
    let same : (node_of now c.args.at).children ≡ (node_of nodes c.args.at).children = c.loop-i.invariant.5 c.args.at (omega arith) in
    subst (λ cs. c.loop-i.i < length (get_or cs.1 c.args.block [])) (sym same) (subst (λ n. c.loop-i.i < n) c.loop-i.invariant.1 c.loop-i-test.true)

pub clear_block-clear_under-requires : goal.clear_block-clear_under-requires
clear_block-clear_under-requires t c =
    let old = c.args.nodes.now in
    let now = c.loop-i.nodes in
    let child = c.child_at-element.result.0 in
    let shape = shape_of-plain old now (same_children c.args.front.now (plain old) (plain now) c.loop-i.invariant.6) in
    let tree = tree_same old now c.loop-i.auto.nodes shape c.requires.tree in
    let key = (get_or (get_or (node_of now c.args.at).children.1 c.args.block []) c.loop-i.i (Head, child)).0 in
    let found : child_of now c.args.at key ≡ Some child = c.child_at-element.ensures.found (Head, child) in
    let rises = tree.rising c.args.at key child found in
    let within = tree.within c.args.at key child found in (
      omega (arith, rises, within, c.loop-i.auto.nodes, c.decreases),
      (tree, (within, (has_presence_from now (c.args.at.0 + 1) child.0 (omega (arith, rises)) c.loop-i.invariant.3, c.loop-i.invariant.4))),
    )

pub clear_block-update_list_presence-requires-clause-child : goal.clear_block-update_list_presence-requires-clause-child
clear_block-update_list_presence-requires-clause-child t c =
    let old = c.args.nodes.now in
    let now = c.loop-i.nodes in
    let child = c.child_at-element.result.0 in
    let shape = shape_of-plain old now (same_children c.args.front.now (plain old) (plain now) c.loop-i.invariant.6) in
    let tree = tree_same old now c.loop-i.auto.nodes shape c.requires.tree in
    let key = (get_or (get_or (node_of now c.args.at).children.1 c.args.block []) c.loop-i.i (Head, child)).0 in
    let found : child_of now c.args.at key ≡ Some child = c.child_at-element.ensures.found (Head, child) in
    let within = tree.within c.args.at key child found in
    omega (arith, within, c.clear_under.auto.nodes)

pub clear_block-loop-i-preserved : goal.clear_block-loop-i-preserved
clear_block-loop-i-preserved t c =
    let front = c.args.front.now in
    let start = c.args.nodes.now in
    let now = c.loop-i.nodes in
    let mid = c.clear_under.new.nodes in
    let new = c.update_list_presence.new.nodes in
    let at = c.args.at in
    let child = c.child_at-element.result.0 in
    let block = get_or (node_of start at).children.1 c.args.block [] in
    let same : (node_of now at).children ≡ (node_of start at).children = c.loop-i.invariant.5 at (omega arith) in
    let entry = get_or (get_or (node_of now at).children.1 c.args.block []) c.loop-i.i (Head, child) in
    let key = entry.0 in
    let found : child_of now at key ≡ Some child = c.child_at-element.ensures.found (Head, child) in
    let first_shape = shape_of-plain start now (same_children front (plain start) (plain now) c.loop-i.invariant.6) in
    let clears = c.clear_under.ensures.clears in
    let shape = shape_of-plain now mid (same_children front (plain now) (plain mid) clears.each) in
    let mid_length : length mid ≡ length start = c.clear_under.auto.nodes ∙ c.loop-i.auto.nodes in
    let now_tree = tree_same start now c.loop-i.auto.nodes first_shape c.requires.tree in
    let tree = tree_same start mid mid_length (shape ∙ first_shape) c.requires.tree in
    let is : new ≡ with_list_presence mid at (reference key) child = c.update_list_presence.ensures ∙ ap (λ e. with_list_presence mid at e child) (c.child_at-element.ensures.element (Head, child)) in
    let plain_is : plain new ≡ plain mid = ap plain is ∙ list_presence-plain mid at (reference key) child in
    let within : at.0 < length mid = omega (arith, mid_length, c.requires.known) in
    let rises = now_tree.rising at key child found in
    let inside : c.loop-i.i < length block = subst (λ n. c.loop-i.i < n) c.loop-i.invariant.1 c.loop-i-test.true in
    let read : (key, child) ≡ get_or block c.loop-i.i (key, child) =
    (λ i. (key, sym (c.child_at-element.ensures.number (Head, child)) i)) ∙ ap (λ cs. get_or (get_or cs.1 c.args.block []) c.loop-i.i (Head, child)) same ∙ get_or_default block c.loop-i.i (Head, child) (key, child) inside in (
      λ old done first.
          let before = c.loop-i.invariant.0 old done first in
          let child_is : child_of old at key ≡ Some child = ap (λ f. f at key) (sym (same_children front old (plain now) before.each) ∙ child_of-plain now) ∙ found in
          subst (λ l. ClearsFirst front old (plain new) at l)
          (append_assoc done (take c.loop-i.i block) ((key, child) ∷ []) ∙ ap (λ l. done ++ l) (sym (take_read block c.loop-i.i (key, child) inside read)))
          (one_more front old (plain now) at (plain new) (done ++ take c.loop-i.i block) key child before child_is
          (subst (λ l. ClearsUnder front (plain now) l child) (sym plain_is) clears)),
      c.loop-i.invariant.1,
      λ n i right. ⊎_elim
          (λ there. inl (ap (λ f. f n (Element i)) (ap child_of is ∙ list_presence-shape mid at within child (reference key) ∙ shape) ∙ there))
          (λ still. inr (subst (λ l. ShowsPresence l n i) (sym is)
          (list_presence-but mid at within child tree key (ap (λ f. f at key) shape ∙ found) n i
          (c.clear_under.ensures.list_presence n i still))))
          (c.loop-i.invariant.2 n i right),
      has_presence-same mid new (at.0 + 1) plain_is (has_presence-cleared front now mid child (at.0 + 1) c.loop-i.invariant.3 clears),
      subst HaveCandidates (sym is) (λ n k. list_presence-candidate mid at within child (reference key) n k (c.clear_under.ensures.candidates n k)),
      λ n less.
          ap (λ l. (node_of l n).children) is ∙ list_presence-children mid at within child (reference key) n
          ∙ c.clear_under.ensures.above n (omega (arith, less, rises)) ∙ c.loop-i.invariant.5 n less,
      each-each front (plain start) (plain now) (plain new) c.loop-i.invariant.6 (subst (IsPartCleared front (plain now)) (sym plain_is) clears.each),
    )

pub clear_block-note_gone_block-requires-clause-tree : goal.clear_block-note_gone_block-requires-clause-tree
clear_block-note_gone_block-requires-clause-tree t c =
    let old = c.args.nodes.now in
    let now = c.loop-i.nodes in
    tree_same old now c.loop-i.auto.nodes (shape_of-plain old now (same_children c.args.front.now (plain old) (plain now) c.loop-i.invariant.6)) c.requires.tree

pub clear_block-returns-clause-clears : goal.clear_block-returns-clause-clears
clear_block-returns-clause-clears t c = λ old done first.
    let now = c.loop-i.nodes in
    let within : c.args.at.0 < length now = omega (arith, c.requires.known, c.loop-i.auto.nodes) in
    let all : take c.loop-i.i (get_or (node_of c.args.nodes.now c.args.at).children.1 c.args.block []) ≡ get_or (node_of c.args.nodes.now c.args.at).children.1 c.args.block [] =
    take_all c.loop-i.i (get_or (node_of c.args.nodes.now c.args.at).children.1 c.args.block []) (omega (arith, c.loop-i.invariant.1, c.loop-i-test.false)) in
    subst (λ l. ClearsFirst c.args.front.now old l c.args.at (done ++ get_or (node_of c.args.nodes.now c.args.at).children.1 c.args.block []))
    (sym (blocks-facts now c.note_gone_block.new.nodes c.args.at within c.note_gone_block.ensures.changes))
    (subst (λ l. ClearsFirst c.args.front.now old (plain now) c.args.at (done ++ l)) all (c.loop-i.invariant.0 old done first))

pub clear_block-returns-clause-list_presence : goal.clear_block-returns-clause-list_presence
clear_block-returns-clause-list_presence t c = λ n i right.
    let now = c.loop-i.nodes in
    let within : c.args.at.0 < length now = omega (arith, c.requires.known, c.loop-i.auto.nodes) in
    blocks-shows_but now c.note_gone_block.new.nodes c.args.at within c.note_gone_block.ensures.changes c.args.at n i (c.loop-i.invariant.2 n i right)

pub clear_block-returns-clause-has_presence : goal.clear_block-returns-clause-has_presence
clear_block-returns-clause-has_presence t c =
    let now = c.loop-i.nodes in
    let within : c.args.at.0 < length now = omega (arith, c.requires.known, c.loop-i.auto.nodes) in
    has_presence-same now c.note_gone_block.new.nodes (c.args.at.0 + 1) (blocks-facts now c.note_gone_block.new.nodes c.args.at within c.note_gone_block.ensures.changes) c.loop-i.invariant.3

pub clear_block-returns-clause-candidates : goal.clear_block-returns-clause-candidates
clear_block-returns-clause-candidates t c =
    let now = c.loop-i.nodes in
    let within : c.args.at.0 < length now = omega (arith, c.requires.known, c.loop-i.auto.nodes) in
    candidates-dropped now c.note_gone_block.new.nodes c.args.at c.args.block within c.note_gone_block.ensures c.loop-i.invariant.4

pub clear_block-returns-clause-above : goal.clear_block-returns-clause-above
clear_block-returns-clause-above t c = λ n less.
    let now = c.loop-i.nodes in
    let within : c.args.at.0 < length now = omega (arith, c.requires.known, c.loop-i.auto.nodes) in
    blocks-other now c.note_gone_block.new.nodes c.args.at within c.note_gone_block.ensures.changes n (λ e. absurd (omega (arith, e, less)))
    ∙ c.loop-i.invariant.5 n (omega (arith, less))

pub clear_block-returns-clause-others : goal.clear_block-returns-clause-others
clear_block-returns-clause-others t c = λ m apart.
    let now = c.loop-i.nodes in
    let within : c.args.at.0 < length now = omega (arith, c.requires.known, c.loop-i.auto.nodes) in
    ap (λ cs. get_or cs.1 m []) (blocks-here now c.note_gone_block.new.nodes c.args.at within c.note_gone_block.ensures.changes)
    ∙ c.note_gone_block.ensures.others m apart
    ∙ ap (λ cs. get_or cs.1 m []) (c.loop-i.invariant.5 c.args.at (omega arith))

-- ---- a node

pub clear_under-returns-then-not-is_present-clause-clears : goal.clear_under-returns-then-not-is_present-clause-clears
clear_under-returns-then-not-is_present-clause-clears t c =
    let nodes = c.args.nodes.now in
    let absent : c.is_present.result ≡ false = search rules in
    clears-absent c.args.front.now nodes c.args.at c.requires.tree c.requires.has_presence (sym c.is_present.ensures ∙ absent)

pub clear_under-returns-then-not-may_have_present_child-clause-clears : goal.clear_under-returns-then-not-may_have_present_child-clause-clears
clear_under-returns-then-not-may_have_present_child-clause-clears t c =
    let front = c.args.front.now in
    let nodes = c.args.nodes.now in
    let at = c.args.at in
    let is : c.clear.new.self ≡ cleared front (node_of nodes at) =
    c.clear.ensures ∙ ap (cleared front) (get_or_default nodes at.0 c.index-nodes-at.result blank_node c.requires.known) in
    let none : (node_of nodes at).may_have_present_child ≡ false =
    ap (λ (z : Node). z.may_have_present_child) (sym is) ∙ ap (λ (z : Node). z.may_have_present_child) (sym (here-set nodes at c.clear.new.self c.requires.known)) ∙ sym c.may_have_present_child.ensures ∙ c.if-not-may_have_present_child.true in
    subst (λ z. ClearsUnder front (plain nodes) (plain (set nodes at.0 z)) at) (sym is)
    (clears-childless front nodes at c.requires.known c.requires.tree c.requires.has_presence none)

pub clear_under-returns-then-not-may_have_present_child-clause-list_presence : goal.clear_under-returns-then-not-may_have_present_child-clause-list_presence
clear_under-returns-then-not-may_have_present_child-clause-list_presence t c = λ n i right.
    let nodes = c.args.nodes.now in
    let at = c.args.at in
    let is : c.clear.new.self ≡ cleared c.args.front.now (node_of nodes at) =
    c.clear.ensures ∙ ap (cleared c.args.front.now) (get_or_default nodes at.0 c.index-nodes-at.result blank_node c.requires.known) in
    subst (λ z. ShowsPresenceBut (set nodes at.0 z) at n i) (sym is)
    (shows_presence-set nodes at c.requires.known (cleared c.args.front.now (node_of nodes at)) refl refl n i right)

pub clear_under-returns-then-not-may_have_present_child-clause-candidates : goal.clear_under-returns-then-not-may_have_present_child-clause-candidates
clear_under-returns-then-not-may_have_present_child-clause-candidates t c =
    let nodes = c.args.nodes.now in
    let at = c.args.at in
    let is : c.clear.new.self ≡ cleared c.args.front.now (node_of nodes at) =
    c.clear.ensures ∙ ap (cleared c.args.front.now) (get_or_default nodes at.0 c.index-nodes-at.result blank_node c.requires.known) in
    subst (λ z. HaveCandidates (set nodes at.0 z)) (sym is)
    (λ n k. candidates-set nodes at c.requires.known (cleared c.args.front.now (node_of nodes at)) refl (some_uncovered c.args.front.now (node_of nodes at).presence.0) n k (c.requires.candidates n k))

pub clear_under-returns-then-not-may_have_present_child-clause-above : goal.clear_under-returns-then-not-may_have_present_child-clause-above
clear_under-returns-then-not-may_have_present_child-clause-above t c = λ n less.
    ap (λ z. z.children) (other-set c.args.nodes.now c.args.at n c.clear.new.self (λ e. absurd (omega (arith, e, less))))

pub clear_under-loop-block-init : goal.clear_under-loop-block-init
clear_under-loop-block-init t c =
    let nodes = c.args.nodes.now in
    let front = c.args.front.now in
    let at = c.args.at in
    let is : c.clear.new.self ≡ cleared front (node_of nodes at) =
    c.clear.ensures ∙ ap (cleared front) (get_or_default nodes at.0 c.index-nodes-at.result blank_node c.requires.known) in
    let here : node_of (set nodes at.0 c.clear.new.self) at ≡ cleared front (node_of nodes at) = here-set nodes at c.clear.new.self c.requires.known ∙ is in (
      none_yet front (plain nodes) (plain (set nodes at.0 c.clear.new.self)) at
          (subst (λ z. at.0 < z) (sym (length-plain nodes)) c.requires.known)
          (ap (λ z. plain (set nodes at.0 z)) is ∙ write-plain nodes at (cleared front) (λ z. refl)),
      c.block_count-blocks.ensures ∙ ap (λ z. length z.children.1) (get_or-set_same nodes at.0 c.clear.new.self c.index-nodes-at-2.result c.requires.known ∙ is),
      λ n i right.
          subst (λ z. ShowsPresenceBut (set nodes at.0 z) at n i) (sym is)
          (shows_presence-set nodes at c.requires.known (cleared front (node_of nodes at)) refl refl n i right),
      subst (λ z. HavePresenceFrom (set nodes at.0 z) (at.0 + 1)) (sym is)
          (has_presence-first front nodes at c.requires.known c.requires.tree c.requires.has_presence),
      subst (λ z. HaveCandidates (set nodes at.0 z)) (sym is)
          (λ n k. candidates-set nodes at c.requires.known (cleared front (node_of nodes at)) refl (some_uncovered front (node_of nodes at).presence.0) n k (c.requires.candidates n k)),
      λ n less. ap (λ z. z.children) (other-set nodes at n c.clear.new.self (λ e. absurd (omega (arith, e, less)))),
      λ m le. ap (λ z. get_or z.children.1 m []) here,
    )

pub clear_under-clear_block-requires : goal.clear_under-clear_block-requires
clear_under-clear_block-requires t c =
    let old = c.args.nodes.now in
    let now = c.loop-block.nodes in
    let same_length : length now ≡ length old = c.loop-block.auto.nodes ∙ length-set old c.args.at.0 c.clear.new.self in
    let shape = shape_of-plain old now (same_children c.args.front.now (plain old) (plain now) c.loop-block.invariant.0.each) in (
      omega (arith, c.decreases, same_length),
      (tree_same old now same_length shape c.requires.tree, (omega (arith, c.requires.known, same_length), (c.loop-block.invariant.3, c.loop-block.invariant.4))),
    )

pub clear_under-loop-block-preserved : goal.clear_under-loop-block-preserved
clear_under-loop-block-preserved t c =
    let front = c.args.front.now in
    let start = c.args.nodes.now in
    let now = c.loop-block.nodes in
    let new = c.clear_block.new.nodes in
    let at = c.args.at in
    let all = (node_of start at).children.1 in
    let b = c.loop-block.block in
    let inside : b < length all = subst (λ n. b < n) c.loop-block.invariant.1 c.loop-block-test.true in
    let this : get_or (node_of now at).children.1 b [] ≡ get_or all b [] = c.loop-block.invariant.6 b (omega arith) in (
      subst (λ l. ClearsFirst front (plain start) (plain new) at l)
          (ap (λ l. joined (take b all) ++ l) this ∙ taken-more all b inside)
          (c.clear_block.ensures.clears (plain start) (joined (take b all)) c.loop-block.invariant.0),
      c.loop-block.invariant.1,
      λ n i right. c.clear_block.ensures.list_presence n i (c.loop-block.invariant.2 n i right),
      c.clear_block.ensures.has_presence,
      c.clear_block.ensures.candidates,
      λ n less. c.clear_block.ensures.above n less ∙ c.loop-block.invariant.5 n less,
      λ m le. c.clear_block.ensures.others m (λ e. absurd (omega (arith, e, le))) ∙ c.loop-block.invariant.6 m (omega (arith, le)),
    )

pub clear_under-returns-clause-clears : goal.clear_under-returns-clause-clears
clear_under-returns-clause-clears t c =
    let nodes = c.args.nodes.now in
    let all = (node_of nodes c.args.at).children.1 in
    let whole : take c.loop-block.block all ≡ all = take_all c.loop-block.block all (omega (arith, c.loop-block.invariant.1, c.loop-block-test.false)) in
    clears-all c.args.front.now nodes c.loop-block.nodes c.args.at (joined (take c.loop-block.block all)) c.requires.tree c.requires.has_presence c.loop-block.invariant.0
    (λ k child down present. subst (λ bs. Contains (joined bs) (k, child)) (sym whole) (c.requires.candidates c.args.at k child down present))
