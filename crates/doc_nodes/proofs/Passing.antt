-- A step on a way that is made present or cleared: what lies below is done, then the node's list is updated.
use Rattle.std.proofs.Common.{◌≡◌, ◌<◌, List, [], ◌∷◌, length, set, Option, Some, None, ⊎_elim, inl, inr, refl, sym, ap, ◌∙◌, subst, arith}
use Rattle.std.proofs.lemmas.List.{length-set}
use Rattle.doc_api.specs.Words.{Id, Key}
use Rattle.op_core.specs.declared.cursor.Key.TheVariants.{Element}
use Rattle.doc_api.specs.declared.role.Role.{Role}
use Rattle.doc_api.specs.declared.role.Role.TheVariants.{Through}
use Rattle.doc_nodes.specs.declared.node.NodeNumber.{NodeNumber}
use Rattle.doc_nodes.specs.declared.node.Node.{Node}
use Rattle.crdt_rules.specs.Context.{reference}
use Rattle.doc_nodes.specs.Walk.{walk}
use Rattle.doc_nodes.specs.Nodes.{node_of, child_of, AreTree}
use Rattle.doc_nodes.specs.PresenceAlong.{made_present, AddsPresenceAlong}
use Rattle.doc_nodes.specs.ListPresence.{plain, with_list_presence, with_element_presence, is_node_present, ShowsPresenceBut, IsCandidate, IsCandidateBut, KeepsBlocks}
use Rattle.doc_nodes.proofs.Walks.{parts_of}
use Rattle.doc_nodes.proofs.AddingPresence.{shape-set, child_before, presence_step, presence_end}
use Rattle.doc_nodes.proofs.Plain.{child_of-plain, length-plain, tree-plain, write-plain, list_presence-plain, shape_of-plain, tree_same}
use Rattle.doc_nodes.proofs.ListPresence.{shows_presence-set, made_present-but, list_presence-shape, list_presence-candidate, candidate-set, candidate-noted, blocks-shape}

-- keys that lead on from a node lead on from its child
pub walk_on : (child : NodeNumber → Key → Option NodeNumber) (n c m : NodeNumber) (k : Key) (keys : List Key) → child n k ≡ Some c → walk child n (k ∷ keys) ≡ Some m
    → walk child c keys ≡ Some m
walk_on child n c m k keys down e =
    let step = parts_of child (λ z. walk child z keys) (child n k) m e in
    let both : ◌≡◌ {A = Option NodeNumber} (Some c) (Some step.0) = sym down ∙ step.1 in
    let same : c ≡ step.0 = cc in
    subst (λ z. walk child z keys ≡ Some m) (sym same) step.2

length-with : (nodes : List Node) (at : NodeNumber) (element : Option Id) (child : NodeNumber) → length (with_list_presence nodes at element child) ≡ length nodes
length-with nodes at None child = refl
length-with nodes at (Some id) child = length-set nodes at.0 (with_element_presence id (is_node_present nodes (Some child)) (node_of nodes at))

-- the end of the way
module _ (id : Id) (role : Role) (nodes new : List Node) (end : NodeNumber) (within : end.0 < length nodes) (is : new ≡ set nodes end.0 (made_present id role (node_of nodes end))) where
  pub added_end : AddsPresenceAlong id role (plain nodes) (plain new) end []
  added_end =
      subst (λ l. AddsPresenceAlong id role (plain nodes) l end []) (sym (ap plain is ∙ write-plain nodes end (made_present id role) (λ z. refl)))
      (presence_end id role (plain nodes) end (subst (λ z. end.0 < z) (sym (length-plain nodes)) within))

  pub shows_presence_end : (n : NodeNumber) (i : Id) → ShowsPresenceBut nodes end n i → ShowsPresenceBut new end n i
  shows_presence_end n i (inl there) = inl (ap (λ f. f n (Element i)) (ap child_of is ∙ shape-set nodes end (made_present id role (node_of nodes end)) within refl) ∙ there)
  shows_presence_end n i (inr right) = subst (λ l. ShowsPresenceBut l end n i) (sym is) (shows_presence-set nodes end within (made_present id role (node_of nodes end)) refl refl n i right)

  pub candidate_end : (n : NodeNumber) (k : Key) → IsCandidate nodes n k → IsCandidateBut new end n k
  candidate_end n k right = subst (λ l. IsCandidateBut l end n k) (sym is) (candidate-set nodes end within (made_present id role (node_of nodes end)) refl n k right)

-- a step on the way
module _ (id : Id) (role : Role) (nodes mid last new : List Node) (at c : NodeNumber) (k : Key) (keys : List Key) (tree : AreTree nodes) (within : at.0 < length nodes)
    (first : mid ≡ set nodes at.0 (made_present id Through (node_of nodes at))) (down : child_of mid at k ≡ Some c)
    (below : AddsPresenceAlong id role (plain mid) (plain last) c keys) (updated : new ≡ with_list_presence last at (reference k) c) where
  pub added_passed : AddsPresenceAlong id role (plain nodes) (plain new) at (k ∷ keys)
  added_passed =
      presence_step id role (plain nodes) at (subst (λ z. at.0 < z) (sym (length-plain nodes)) within) (tree-plain nodes tree) k keys c (plain new)
      (ap (λ f. f at k) (child_of-plain nodes) ∙ child_before id nodes mid at c k within first down)
      (subst (λ l. AddsPresenceAlong id role l (plain new) c keys) (ap plain first ∙ write-plain nodes at (made_present id Through) (λ z. refl))
      (subst (λ l. AddsPresenceAlong id role (plain mid) l c keys) (sym (ap plain updated ∙ list_presence-plain last at (reference k) c)) below))

  shape : child_of mid ≡ child_of nodes
  shape = ap child_of first ∙ shape-set nodes at (made_present id Through (node_of nodes at)) within refl

  same_shape : child_of last ≡ child_of mid
  same_shape = shape_of-plain mid last below.shape

  same_mid : length mid ≡ length nodes
  same_mid = ap length first ∙ length-set nodes at.0 (made_present id Through (node_of nodes at))

  pub shows_presence_passed : (m : NodeNumber) → length last ≡ length mid → ((n : NodeNumber) (i : Id) → ShowsPresenceBut mid m n i → ShowsPresenceBut last c n i)
      → (n : NodeNumber) (i : Id) → ShowsPresenceBut nodes m n i → ShowsPresenceBut new at n i
  shows_presence_passed m same list_presence n i doubted =
      let same_last : length last ≡ length nodes = same ∙ same_mid in
      subst (λ l. ShowsPresenceBut l at n i) (sym updated)
      (made_present-but nodes mid last at m c k
      (λ j x right. subst (λ l. ShowsPresenceBut l at j x) (sym first) (shows_presence-set nodes at within (made_present id Through (node_of nodes at)) refl refl j x right))
      shape list_presence same_shape (tree_same nodes last same_last (same_shape ∙ shape) tree) (omega (arith, same_last)) (ap (λ f. f at k) same_shape ∙ down)
      n i doubted)

  -- and the child is noted
  pub candidate_passed : (noted : List Node) → length last ≡ length mid → KeepsBlocks new noted at k → ((n : NodeNumber) (q : Key) → IsCandidate mid n q → IsCandidateBut last c n q)
      → (n : NodeNumber) (q : Key) → IsCandidate nodes n q → IsCandidateBut noted at n q
  candidate_passed noted same keeps candidates n q right = ⊎_elim
      (λ there. inl (ap (λ f. f n q) (blocks-shape new noted at within_new keeps.changes ∙ shape_new) ∙ there))
      (λ kept. inr (candidate-noted new noted at c k within_new tree_new (ap (λ f. f at k) shape_new ∙ down) keeps n q
      (⊎_elim
      (λ there. inl (ap (λ f. f n q) shape_updated ∙ there))
      (λ still. inr (subst (λ l. IsCandidate l n q) (sym updated) (list_presence-candidate last at within_last c (reference k) n q still)))
      (candidates n q kept))))
      (subst (λ l. IsCandidateBut l at n q) (sym first) (candidate-set nodes at within (made_present id Through (node_of nodes at)) refl n q right))
    where
      same_last : length last ≡ length nodes
      same_last = same ∙ same_mid

      within_last : at.0 < length last
      within_last = omega (arith, within, same_last)

      shape_updated : child_of new ≡ child_of last
      shape_updated = ap child_of updated ∙ list_presence-shape last at within_last c (reference k)

      shape_new : child_of new ≡ child_of mid
      shape_new = shape_updated ∙ same_shape

      same_new : length new ≡ length nodes
      same_new = ap length updated ∙ length-with last at (reference k) c ∙ same_last

      within_new : at.0 < length new
      within_new = omega (arith, within, same_new)

      tree_new : AreTree new
      tree_new = tree_same nodes new same_new (shape_new ∙ shape) tree
