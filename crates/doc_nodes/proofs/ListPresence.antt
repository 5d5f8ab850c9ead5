-- Lists tell which of their elements are present, after each write.
use Rattle.std.proofs.Common.{◌≡◌, ◌≢◌, ℕ, ◌<◌, List, [], ◌∷◌, length, get_or, set, Bool, true, false, Option, Some, None, ◌⊎◌, inl, inr, ⊎_elim, refl, sym, ap, ◌∙◌, subst, true≢false, arith, Contains}
use Rattle.std.proofs.lemmas.Bool.{cases_eq, cases_lt}
use Rattle.std.proofs.lemmas.List.{get_or_past, get_or_default, set-get_or}
use Rattle.key_map.specs.ByKey.{at_key}
use Rattle.key_map.proofs.Gone.{in_block, in_joined}
use Rattle.doc_api.specs.Words.{Id, Key}
use Rattle.op_core.specs.declared.cursor.Key.TheVariants.{Doc, Text, Element, Head}
use Rattle.crdt_rules.specs.Same.{id_eq}
use Rattle.crdt_rules.proofs.SameLaws.{id_decides, eq_from}
use Rattle.list_order.proofs.Entries.{entry-with, entry-insert}
use Rattle.doc_nodes.specs.declared.node.NodeNumber.{NodeNumber}
use Rattle.doc_nodes.specs.declared.node.Node.{Node}
use Rattle.crdt_rules.specs.Context.{reference}
use Rattle.doc_nodes.specs.Walk.{root}
use Rattle.doc_api.specs.declared.role.Role.{Role}
use Rattle.presence_set.specs.ById.{uncovered}
use Rattle.key_map.specs.Blocks.{joined}
use Rattle.doc_nodes.specs.Nodes.{blank_node, node_of, child_of, AreTree}
use Rattle.doc_nodes.proofs.Plain.{blocks-plain}
use Rattle.doc_nodes.specs.Writes.{with_entry}
use Rattle.doc_nodes.specs.Growth.{Grows}
use Rattle.doc_nodes.specs.ListPresence.{is_some_entry, is_node_present, with_element_presence, with_list_presence, ShowsPresence, ShowsPresenceBut, ListsShowPresence, ListsShowPresenceBut, plain, with_blocks, candidates, IsCandidate, IsCandidateBut, HaveCandidates, ChangesBlocks, KeepsBlocks, MayDropBlock}
use Rattle.doc_nodes.proofs.AddingPresence.{here-set, other-set, eq_number, shape-set}
use Rattle.doc_nodes.proofs.AddingPresence.{unwritten}

-- where the list is the same, and the child is present as it was
shows_presence_kept : (old new : List Node) (n : NodeNumber) (i : Id) → (node_of new n).order.0 ≡ (node_of old n).order.0
    → is_node_present new (child_of new n (Element i)) ≡ is_node_present old (child_of old n (Element i)) → ShowsPresence old n i → ShowsPresence new n i
shows_presence_kept old new n i order same right is c = right is (subst (λ l. Contains l (i, is)) order c) ∙ sym same

-- growth changes nothing of that
module _ (old new : List Node) (grows : Grows old new) where
  same_presence : (n : NodeNumber) (k : Key) → is_node_present new (child_of new n k) ≡ is_node_present old (child_of old n k)
  same_presence n k = go (child_of old n k) refl (child_of new n k) refl
    where
      go : (a : Option NodeNumber) → child_of old n k ≡ a → (b : Option NodeNumber) → child_of new n k ≡ b → is_node_present new b ≡ is_node_present old a
      go (Some c) e b f =
          let both : ◌≡◌ {A = Option NodeNumber} b (Some c) = sym f ∙ grows.forward n k c e in
          ap (is_node_present new) both ∙ ap is_some_entry (grows.presence c)
      go None e None f = refl
      go None e (Some c) f = ⊎_elim
          (λ l. let both : ◌≡◌ {A = Option NodeNumber} None (Some c) = sym e ∙ grows.back n k c f l in absurd (cc))
          (λ l. ap is_some_entry (grows.presence c) ∙ ap (λ z. is_some_entry z.presence.0) (get_or_past old c.0 blank_node l))
          (cases_lt c.0 (length old))

  candidates-grown : HaveCandidates old → HaveCandidates new
  candidates-grown right n k c down present = ⊎_elim
      (λ l. grows.candidates n (k, c) (right n k c (grows.back n k c down l) (ap is_some_entry (sym (grows.presence c)) ∙ present)))
      (λ l. absurd (true≢false (sym present ∙ ap is_some_entry (grows.presence c) ∙ ap (λ z. is_some_entry z.presence.0) (get_or_past old c.0 blank_node l))))
      (cases_lt c.0 (length old))

  pub lists_show_presence-grown : ListsShowPresence old → ListsShowPresence new
  lists_show_presence-grown right =
      (λ n i. shows_presence_kept old new n i (grows.order n) (same_presence n (Element i)) (right.0 n i), candidates-grown right.1)

-- a write to a node that leaves its list and its children
module _ (nodes : List Node) (at : NodeNumber) (within : at.0 < length nodes) (node : Node) (shape : node.children.0 ≡ (node_of nodes at).children.0)
    (order : node.order.0 ≡ (node_of nodes at).order.0) where
  -- leaves what lists show of others
  pub shows_presence-set : (n : NodeNumber) (i : Id) → ShowsPresence nodes n i → ShowsPresenceBut (set nodes at.0 node) at n i
  shows_presence-set n i right = go (child_of nodes n (Element i)) refl
    where
      child : child_of (set nodes at.0 node) n (Element i) ≡ child_of nodes n (Element i)
      child = ap (λ f. f n (Element i)) (shape-set nodes at node within shape)

      kept : is_node_present (set nodes at.0 node) (child_of nodes n (Element i)) ≡ is_node_present nodes (child_of nodes n (Element i)) → ShowsPresence (set nodes at.0 node) n i
      kept same = shows_presence_kept nodes (set nodes at.0 node) n i (unwritten nodes at within (λ z. z.order.0) node order n) (ap (is_node_present (set nodes at.0 node)) child ∙ same) right

      go : (o : Option NodeNumber) → child_of nodes n (Element i) ≡ o → ShowsPresenceBut (set nodes at.0 node) at n i
      go None e = inr (kept (ap (is_node_present (set nodes at.0 node)) e ∙ ap (is_node_present nodes) (sym e)))
      go (Some c) e = ⊎_elim
          (λ here. inl (child ∙ e ∙ ap Some (eq_number c at here)))
          (λ apart. inr (kept (ap (is_node_present (set nodes at.0 node)) e ∙ ap (λ z. is_some_entry z.presence.0) (other-set nodes at c node apart) ∙ ap (is_node_present nodes) (sym e))))
          (cases_eq c.0 at.0)

  -- and of the node too, if it is present as it was
  pub shows_presence-same : node.presence ≡ (node_of nodes at).presence → (n : NodeNumber) (i : Id) → ShowsPresence nodes n i → ShowsPresence (set nodes at.0 node) n i
  shows_presence-same presence n i right =
      shows_presence_kept nodes (set nodes at.0 node) n i (unwritten nodes at within (λ z. z.order.0) node order n)
      (ap (is_node_present (set nodes at.0 node)) (ap (λ f. f n (Element i)) (shape-set nodes at node within shape)) ∙ go (child_of nodes n (Element i)))
      right
    where
      go : (o : Option NodeNumber) → is_node_present (set nodes at.0 node) o ≡ is_node_present nodes o
      go None = refl
      go (Some c) = ap (λ p. is_some_entry p.0) (unwritten nodes at within (λ z. z.presence) node presence c)

-- ---- which children may be present

-- where the children are the same, no more of them are present, and as many may be
pub candidate_kept : (old new : List Node) → child_of new ≡ child_of old → (n : NodeNumber) (k : Key)
    → ((c : NodeNumber) → is_node_present new (Some c) ≡ true → is_node_present old (Some c) ≡ true)
    → ((c : NodeNumber) → is_node_present old (Some c) ≡ true → Contains (candidates (node_of old n)) (k, c) → Contains (candidates (node_of new n)) (k, c))
    → IsCandidate old n k → IsCandidate new n k
candidate_kept old new shape n k fewer more right c down present =
    let was = fewer c present in
    more c was (right c (ap (λ f. f n k) (sym shape) ∙ down) was)

-- a write to a node that leaves its children
module _ (nodes : List Node) (at : NodeNumber) (within : at.0 < length nodes) (node : Node) (children : node.children ≡ (node_of nodes at).children) where
  -- leaves those of other nodes
  still_candidate : (n : NodeNumber) (k : Key) (c : NodeNumber) → Contains (candidates (node_of nodes n)) (k, c) → Contains (candidates (node_of (set nodes at.0 node) n)) (k, c)
  still_candidate n k c there = subst (λ cs. Contains (joined cs.1) (k, c)) (sym (unwritten nodes at within (λ z. z.children) node children n)) there

  pub candidate-set : (n : NodeNumber) (k : Key) → IsCandidate nodes n k → IsCandidateBut (set nodes at.0 node) at n k
  candidate-set n k right = go (child_of nodes n k) refl
    where
      child : child_of (set nodes at.0 node) n k ≡ child_of nodes n k
      child = ap (λ f. f n k) (shape-set nodes at node within (ap (λ cs. cs.0) children))

      go : (o : Option NodeNumber) → child_of nodes n k ≡ o → IsCandidateBut (set nodes at.0 node) at n k
      go None e = inr (λ c down present. let void : ◌≡◌ {A = Option NodeNumber} None (Some c) = sym e ∙ sym child ∙ down in absurd (cc))
      go (Some m) e = ⊎_elim
          (λ here. inl (child ∙ e ∙ ap Some (eq_number m at here)))
          (λ apart. inr (λ c down present.
          let both : ◌≡◌ {A = Option NodeNumber} (Some m) (Some c) = sym e ∙ sym child ∙ down in
          let same : m ≡ c = cc in
          still_candidate n k c (right c (sym child ∙ down)
          (ap (λ z. is_some_entry z.presence.0) (sym (other-set nodes at c node (λ here. apart (ap (λ z. z.0) same ∙ here)))) ∙ present))))
          (cases_eq m.0 at.0)

  -- and all, if the node is present at most as it was
  pub candidates-set : (is_some_entry node.presence.0 ≡ true → is_some_entry (node_of nodes at).presence.0 ≡ true) → (n : NodeNumber) (k : Key)
      → IsCandidate nodes n k → IsCandidate (set nodes at.0 node) n k
  candidates-set fewer n k right =
      candidate_kept nodes (set nodes at.0 node) (shape-set nodes at node within (ap (λ cs. cs.0) children)) n k before (λ c was there. still_candidate n k c there) right
    where
      before : (c : NodeNumber) → is_node_present (set nodes at.0 node) (Some c) ≡ true → is_node_present nodes (Some c) ≡ true
      before c present = ⊎_elim
          (λ here. let same = eq_number c at here in
          subst (λ z. is_node_present nodes (Some z) ≡ true) (sym same)
          (fewer (ap (λ z. is_some_entry z.presence.0) (sym (here-set nodes at node within)) ∙ subst (λ z. is_node_present (set nodes at.0 node) (Some z) ≡ true) same present)))
          (λ apart. ap (λ z. is_some_entry z.presence.0) (sym (other-set nodes at c node apart)) ∙ present)
          (cases_eq c.0 at.0)

-- a write to a node that leaves its list, its children and its presence
pub lists_show_presence-set : (nodes : List Node) (at : NodeNumber) → at.0 < length nodes → (node : Node) → node.children ≡ (node_of nodes at).children
    → node.order.0 ≡ (node_of nodes at).order.0 → node.presence ≡ (node_of nodes at).presence → ListsShowPresence nodes → ListsShowPresence (set nodes at.0 node)
lists_show_presence-set nodes at within node children order presence right = (
  λ n i. shows_presence-same nodes at within node (ap (λ cs. cs.0) children) order presence n i (right.0 n i),
  λ n k. candidates-set nodes at within node children (λ is. ap (λ p. is_some_entry p.0) (sym presence) ∙ is) n k (right.1 n k),
)

-- other blocks of a node aren't gone
module _ (old new : List Node) (at : NodeNumber) (within : at.0 < length old) (changes : ChangesBlocks old new at) where
  pub blocks-facts : plain new ≡ plain old
  blocks-facts = ap plain changes.is ∙ blocks-plain old at changes.blocks

  pub blocks-shape : child_of new ≡ child_of old
  blocks-shape = ap child_of changes.is ∙ shape-set old at (with_blocks changes.blocks (node_of old at)) within refl

  pub blocks-shows : (n : NodeNumber) (i : Id) → ShowsPresence old n i → ShowsPresence new n i
  blocks-shows n i right =
      subst (λ l. ShowsPresence l n i) (sym changes.is) (shows_presence-same old at within (with_blocks changes.blocks (node_of old at)) refl refl refl n i right)

  pub blocks-shows_but : (m n : NodeNumber) (i : Id) → ShowsPresenceBut old m n i → ShowsPresenceBut new m n i
  blocks-shows_but m n i (inl there) = inl (ap (λ f. f n (Element i)) blocks-shape ∙ there)
  blocks-shows_but m n i (inr right) = inr (blocks-shows n i right)

  pub blocks-present : (c : NodeNumber) → is_node_present new (Some c) ≡ is_node_present old (Some c)
  blocks-present c =
      ap (λ l. is_node_present l (Some c)) changes.is
      ∙ ap (λ p. is_some_entry p.0) (unwritten old at within (λ z. z.presence) (with_blocks changes.blocks (node_of old at)) refl c)

  pub blocks-here : (node_of new at).children ≡ ((node_of old at).children.0, changes.blocks)
  blocks-here = ap (λ l. (node_of l at).children) changes.is ∙ ap (λ z. z.children) (here-set old at (with_blocks changes.blocks (node_of old at)) within)

  pub blocks-other : (n : NodeNumber) → n.0 ≢ at.0 → (node_of new n).children ≡ (node_of old n).children
  blocks-other n apart = ap (λ l. (node_of l n).children) changes.is ∙ ap (λ z. z.children) (other-set old at n (with_blocks changes.blocks (node_of old at)) apart)

  pub blocks-candidate : (n : NodeNumber) (k : Key)
      → ((c : NodeNumber) → is_node_present old (Some c) ≡ true → Contains (candidates (node_of old at)) (k, c) → Contains (joined changes.blocks) (k, c))
      → IsCandidate old n k → IsCandidate new n k
  blocks-candidate n k kept right =
      candidate_kept old new blocks-shape n k (λ c present. sym (blocks-present c) ∙ present)
      (λ c was there. ⊎_elim
      (λ here. let same = eq_number n at here in
      subst (λ z. Contains (candidates (node_of new z)) (k, c)) (sym same)
      (subst (λ cs. Contains (joined cs.1) (k, c)) (sym blocks-here) (kept c was (subst (λ z. Contains (candidates (node_of old z)) (k, c)) same there))))
      (λ apart. subst (λ cs. Contains (joined cs.1) (k, c)) (sym (blocks-other n apart)) there)
      (cases_eq n.0 at.0))
      right

-- what a note in a node comes to
module _ (nodes : List Node) (at : NodeNumber) (within : at.0 < length nodes) (read : Node) (children : List (Key × NodeNumber) × List (List (Key × NodeNumber)))
    (same : children.0 ≡ (get_or nodes at.0 read).children.0) where
  node_is : get_or nodes at.0 read ≡ node_of nodes at
  node_is = get_or_default nodes at.0 read blank_node within

  abbrev changes_from : ChangesBlocks nodes (set nodes at.0 (record (get_or nodes at.0 read) { children = children })) at
  changes_from = record {
    blocks = children.1;
    is = λ i. set nodes at.0 (record (node_is i) { children = ((same ∙ ap (λ z. z.children.0) node_is) i, children.1) });
  }

  pub keeps_from : (key : Key) → ((e : Key × NodeNumber) → Contains (joined (get_or nodes at.0 read).children.1) e → Contains (joined children.1) e)
      → ((c : NodeNumber) → at_key (get_or nodes at.0 read).children.0 key ≡ Some c → Contains (joined children.1) (key, c))
      → KeepsBlocks nodes (set nodes at.0 (record (get_or nodes at.0 read) { children = children })) at key
  keeps_from key kept noted = record {
    changes = changes_from;
    kept = λ e there. kept e (subst (λ z. Contains (joined z.children.1) e) (sym node_is) there);
    noted = λ c found. noted c (ap (λ z. at_key z.children.0 key) node_is ∙ found);
  }

  pub drops_from : (block : ℕ) → ((m : ℕ) → m ≢ block → get_or children.1 m [] ≡ get_or (get_or nodes at.0 read).children.1 m [])
      → ((e : Key × NodeNumber) → Contains (get_or (node_of nodes at).children.1 block []) e → is_node_present nodes (Some e.1) ≡ false)
      → MayDropBlock nodes (set nodes at.0 (record (get_or nodes at.0 read) { children = children })) at block
  drops_from block others none = record {
    changes = changes_from;
    others = others_are;
    kept = λ e there present.
        let in_one = in_block (node_of nodes at).children.1 e there in
        ⊎_elim
        (λ same. absurd (true≢false (sym present ∙ none e (subst (λ m. Contains (get_or (node_of nodes at).children.1 m []) e) same in_one.has))))
        (λ apart. in_joined children.1 in_one.block e (subst (λ l. Contains l e) (sym (others_are in_one.block apart)) in_one.has))
        (cases_eq in_one.block block);
  }
    where
      others_are : (m : ℕ) → m ≢ block → get_or children.1 m [] ≡ get_or (node_of nodes at).children.1 m []
      others_are m apart = others m apart ∙ ap (λ z. get_or z.children.1 m []) node_is

pub drops_nothing : (nodes : List Node) (at : NodeNumber) (block : ℕ) → MayDropBlock nodes nodes at block
drops_nothing nodes at block = record {
  changes = record { blocks = (node_of nodes at).children.1; is = sym (set-get_or nodes at.0 blank_node) };
  others = λ m apart. refl;
  kept = λ e there present. there;
}

-- a child that a block has is a node
pub child_within : (nodes : List Node) → AreTree nodes → (at : NodeNumber) → at.0 < length nodes → (read : Node) (e : Key × NodeNumber)
    → at_key (get_or nodes at.0 read).children.0 e.0 ≡ Some e.1 → e.1.0 < length nodes
child_within nodes tree at within read e found = tree.within at e.0 e.1 (ap (λ z. at_key z.children.0 e.0) (sym (get_or_default nodes at.0 read blank_node within)) ∙ found)

-- a block of a node may be gone
pub candidates-dropped : (old new : List Node) (at : NodeNumber) (block : ℕ) → at.0 < length old → MayDropBlock old new at block → HaveCandidates old → HaveCandidates new
candidates-dropped old new at block within drops right n k = blocks-candidate old new at within drops.changes n k (λ c present there. drops.kept (k, c) there present) (right n k)

-- a child may be present from now on
pub candidate-noted : (old new : List Node) (at child : NodeNumber) (key : Key) → at.0 < length old → AreTree old → child_of old at key ≡ Some child
    → KeepsBlocks old new at key → (n : NodeNumber) (k : Key) → IsCandidateBut old child n k → IsCandidate new n k
candidate-noted old new at child key within tree found keeps n k (inr right) =
    blocks-candidate old new at within keeps.changes n k (λ c present there. keeps.kept (k, c) there) right
candidate-noted old new at child key within tree found keeps n k (inl there) = λ c down present.
    let one = tree.unique n at k key child there found in
    let was : child_of old n k ≡ Some c = ap (λ f. f n k) (sym (blocks-shape old new at within keeps.changes)) ∙ down in
    let both : ◌≡◌ {A = Option NodeNumber} (Some child) (Some c) = sym there ∙ was in
    let same : child ≡ c = cc in
    subst (λ z. Contains (candidates (node_of new z)) (k, c)) (sym one.0)
    (subst (λ z. Contains (candidates (node_of new at)) (z, c)) (sym one.1)
    (subst (λ cs. Contains (joined cs.1) (key, c)) (sym (blocks-here old new at within keeps.changes))
    (keeps.noted c (found ∙ ap Some same))))

pub some_uncovered : (front : List (List ℕ × ℕ)) (entries : List (Id × Role)) → is_some_entry (uncovered front entries) ≡ true → is_some_entry entries ≡ true
some_uncovered front [] is = is
some_uncovered front (e ∷ entries) is = refl

-- the list of a node stores anew whether a child is present
module _ (nodes : List Node) (at : NodeNumber) (within : at.0 < length nodes) (child : NodeNumber) where
  pub list_presence-shape : (element : Option Id) → child_of (with_list_presence nodes at element child) ≡ child_of nodes
  list_presence-shape None = refl
  list_presence-shape (Some id) = shape-set nodes at (with_element_presence id (is_node_present nodes (Some child)) (node_of nodes at)) within refl

  module _ (id : Id) (found : child_of nodes at (Element id) ≡ Some child) where
    abbrev node : Node
    node = with_element_presence id (is_node_present nodes (Some child)) (node_of nodes at)

    same_presence-updated : (n : NodeNumber) (i : Id) → is_node_present (set nodes at.0 node) (child_of (set nodes at.0 node) n (Element i)) ≡ is_node_present nodes (child_of nodes n (Element i))
    same_presence-updated n i = ap (λ f. is_node_present (set nodes at.0 node) (f n (Element i))) (shape-set nodes at node within refl) ∙ go (child_of nodes n (Element i))
      where
        go : (o : Option NodeNumber) → is_node_present (set nodes at.0 node) o ≡ is_node_present nodes o
        go None = refl
        go (Some c) = ap (λ p. is_some_entry p.0) (unwritten nodes at within (λ z. z.presence) node refl c)

    -- at the node
    shows_presence-here : (i : Id) → ShowsPresence nodes at i ⊎ (id ≡ i) → ShowsPresence (set nodes at.0 node) at i
    shows_presence-here i right is c =
        ⊎_elim
        (λ h. h.1 ∙ ap (is_node_present nodes) (sym found) ∙ ap (λ z. is_node_present nodes (child_of nodes at (Element z))) (sym (id_decides.same i id h.0)) ∙ sym (same_presence-updated at i))
        (λ h. ⊎_elim
        (λ before. before is h.1 ∙ sym (same_presence-updated at i))
        (λ same. absurd (true≢false (sym (eq_from id_decides i id (sym same)) ∙ h.0)))
        right)
        (entry-with (node_of nodes at).order.0 id (is_node_present nodes (Some child)) i is (subst (λ z. Contains z.order.0 (i, is)) (here-set nodes at node within) c))

    shows_presence-updated : (n : NodeNumber) (i : Id) → ShowsPresence nodes n i ⊎ ((n ≡ at) × (id ≡ i)) → ShowsPresence (set nodes at.0 node) n i
    shows_presence-updated n i right = ⊎_elim
        (λ here.
        let same = eq_number n at here in
        subst (λ z. ShowsPresence (set nodes at.0 node) z i) (sym same)
        (shows_presence-here i (⊎_elim (λ before. inl (subst (λ z. ShowsPresence nodes z i) same before)) (λ h. inr h.1) right)))
        (λ apart. ⊎_elim
        (λ before. shows_presence_kept nodes (set nodes at.0 node) n i (ap (λ z. z.order.0) (other-set nodes at n node apart)) (same_presence-updated n i) before)
        (λ h. absurd (apart (ap (λ z. z.0) h.0)))
        right)
        (cases_eq n.0 at.0)

  -- and no more of the children are present, nor fewer may be
  pub list_presence-candidate : (element : Option Id) (n : NodeNumber) (k : Key) → IsCandidate nodes n k → IsCandidate (with_list_presence nodes at element child) n k
  list_presence-candidate None n k right = right
  list_presence-candidate (Some id) n k right =
      candidates-set nodes at within (with_element_presence id (is_node_present nodes (Some child)) (node_of nodes at)) refl (λ is. is) n k right

  pub list_presence-children : (element : Option Id) (n : NodeNumber) → (node_of (with_list_presence nodes at element child) n).children ≡ (node_of nodes n).children
  list_presence-children None n = refl
  list_presence-children (Some id) n =
      unwritten nodes at within (λ z. z.children) (with_element_presence id (is_node_present nodes (Some child)) (node_of nodes at)) refl n

  -- then what was right for all but the child is right for all
  pub list_presence-but : AreTree nodes → (k : Key) → child_of nodes at k ≡ Some child → (n : NodeNumber) (i : Id) → ShowsPresenceBut nodes child n i
      → ShowsPresence (with_list_presence nodes at (reference k) child) n i
  list_presence-but tree k found n i (inl there) = let one = tree.unique n at (Element i) k child there found in for_key k found one.0 one.1
    where
      for_key : (k : Key) → child_of nodes at k ≡ Some child → n ≡ at → Element i ≡ k → ShowsPresence (with_list_presence nodes at (reference k) child) n i
      for_key (Element id) found here same = shows_presence-updated id found n i (inr (here, cc))
      for_key Doc found here same = absurd (cc)
      for_key Head found here same = absurd (cc)
      for_key (Text t) found here same = absurd (cc)
  list_presence-but tree k found n i (inr right) = for_key k found
    where
      for_key : (k : Key) → child_of nodes at k ≡ Some child → ShowsPresence (with_list_presence nodes at (reference k) child) n i
      for_key (Element id) found = shows_presence-updated id found n i (inl right)
      for_key Doc found = right
      for_key Head found = right
      for_key (Text t) found = right

-- no list shows the root
pub shows_presence-but_root : (nodes : List Node) → AreTree nodes → (n : NodeNumber) (i : Id) → ShowsPresenceBut nodes root n i → ShowsPresence nodes n i
shows_presence-but_root nodes tree n i (inl there) = absurd (omega (arith, tree.rising n (Element i) root there))
shows_presence-but_root nodes tree n i (inr right) = right

-- A step on a way that is made present: the node, then what lies below, then the node's list is updated.
module _ (nodes mid last : List Node) (at m child : NodeNumber) (k : Key)
    (first : (n : NodeNumber) (i : Id) → ShowsPresence nodes n i → ShowsPresenceBut mid at n i) (shape : child_of mid ≡ child_of nodes)
    (below : (n : NodeNumber) (i : Id) → ShowsPresenceBut mid m n i → ShowsPresenceBut last child n i) (same : child_of last ≡ child_of mid)
    (tree : AreTree last) (within : at.0 < length last) (found : child_of last at k ≡ Some child) where
  pub made_present-but : (n : NodeNumber) (i : Id) → ShowsPresenceBut nodes m n i → ShowsPresenceBut (with_list_presence last at (reference k) child) at n i
  made_present-but n i (inl there) = inr (list_presence-but last at within child tree k found n i (below n i (inl (ap (λ f. f n (Element i)) shape ∙ there))))
  made_present-but n i (inr right) = ⊎_elim
      (λ there. inl (ap (λ f. f n (Element i)) (list_presence-shape last at within child (reference k) ∙ same) ∙ there))
      (λ kept. inr (list_presence-but last at within child tree k found n i (below n i (inr kept))))
      (first n i right)

-- An id is linked into a list: what the list shows of it alone may be wrong.
module _ (nodes : List Node) (at : NodeNumber) (within : at.0 < length nodes) (after : Option Id) (id : Id) where
  abbrev linked : List Node
  linked = set nodes at.0 (with_entry after id (node_of nodes at))

  linked_shape : child_of linked ≡ child_of nodes
  linked_shape = shape-set nodes at (with_entry after id (node_of nodes at)) within refl

  linked_presence : (n : NodeNumber) (i : Id) → is_node_present linked (child_of linked n (Element i)) ≡ is_node_present nodes (child_of nodes n (Element i))
  linked_presence n i = ap (λ f. is_node_present linked (f n (Element i))) linked_shape ∙ go (child_of nodes n (Element i))
    where
      go : (o : Option NodeNumber) → is_node_present linked o ≡ is_node_present nodes o
      go None = refl
      go (Some c) = ap (λ p. is_some_entry p.0) (unwritten nodes at within (λ z. z.presence) (with_entry after id (node_of nodes at)) refl c)

  -- in its list
  linked_here : (child : NodeNumber) → child_of nodes at (Element id) ≡ Some child → ((n : NodeNumber) (i : Id) → ShowsPresence nodes n i) → (i : Id) → ShowsPresenceBut linked child at i
  linked_here child found right i = go (id_eq i id) refl
    where
      go : (b : Bool) → id_eq i id ≡ b → ShowsPresenceBut linked child at i
      go true f = inl (ap (λ g. g at (Element i)) linked_shape ∙ ap (λ z. child_of nodes at (Element z)) (id_decides.same i id f) ∙ found)
      go false f = inr (λ is c. ⊎_elim
          (λ h. absurd (true≢false (sym (eq_from id_decides i id h.0) ∙ f)))
          (λ old. right at i is old ∙ sym (linked_presence at i))
          (entry-insert id i is (node_of nodes at).order.0 after
          (subst (λ z. Contains z.order.0 (i, is)) (here-set nodes at (with_entry after id (node_of nodes at)) within) c)))

  pub lists_show_presence-linked : (child : NodeNumber) → child_of nodes at (Element id) ≡ Some child → ListsShowPresence nodes → ListsShowPresenceBut linked child
  lists_show_presence-linked child found right = (
    λ n i. ⊎_elim
        (λ here. subst (λ z. ShowsPresenceBut linked child z i) (sym (eq_number n at here)) (linked_here child found right.0 i))
        (λ apart. inr (shows_presence_kept nodes linked n i (ap (λ z. z.order.0) (other-set nodes at n (with_entry after id (node_of nodes at)) apart)) (linked_presence n i) (right.0 n i)))
        (cases_eq n.0 at.0),
    λ n k. candidates-set nodes at within (with_entry after id (node_of nodes at)) refl (λ is. is) n k (right.1 n k),
  )

-- no node has the root as a child
pub candidate-but_root : (nodes : List Node) → AreTree nodes → (n : NodeNumber) (k : Key) → IsCandidateBut nodes root n k → IsCandidate nodes n k
candidate-but_root nodes tree n k (inl there) = absurd (omega (arith, tree.rising n k root there))
candidate-but_root nodes tree n k (inr right) = right
