-- The nodes but for what their lists tell: each write to another part is the same write.
use Rattle.std.proofs.Common.{◌≡◌, ◌<◌, ℕ, zero, suc, List, [], ◌∷◌, length, map, set, get_or, Option, Some, None, refl, sym, ap, ◌∙◌, subst, true}
use Rattle.std.proofs.lemmas.List.{length-map, map-set, set-get_or}
use Rattle.std.specs.Prelude.{IsSome, option_and_then}
use mathlib.Core.Path.{fun_ext}
use Rattle.doc_api.specs.Words.{Id, Key, Tagged}
use Rattle.list_order.proofs.Entries.{all_absent-with}
use Rattle.doc_nodes.specs.declared.node.NodeNumber.{NodeNumber}
use Rattle.doc_nodes.specs.declared.node.Node.{Node}
use Rattle.key_map.specs.ByKey.{at_key}
use Rattle.doc_nodes.specs.Walk.{walk, root, trail, IsTree}
use Rattle.doc_nodes.specs.Nodes.{blank_node, node_of, child_of, node_at, AreTree}
use Rattle.doc_nodes.specs.PresenceAlong.{HasRoomAlong, IsReady}
use Rattle.doc_nodes.specs.ListPresence.{with_element_presence, is_node_present, with_list_presence, without_list_presence, with_blocks, plain}

without_list_presence_at : (nodes : List Node) (i : ℕ) → get_or (map without_list_presence nodes) i blank_node ≡ without_list_presence (get_or nodes i blank_node)
without_list_presence_at [] i = refl
without_list_presence_at (node ∷ nodes) zero = refl
without_list_presence_at (node ∷ nodes) (suc i) = without_list_presence_at nodes i

module _ (nodes : List Node) where
  pub node_of-plain : (n : NodeNumber) → node_of (plain nodes) n ≡ without_list_presence (node_of nodes n)
  node_of-plain n = without_list_presence_at nodes n.0

  pub child_of-plain : child_of (plain nodes) ≡ child_of nodes
  child_of-plain = fun_ext (λ n. fun_ext (λ k. ap (λ z. at_key z.children.0 k) (without_list_presence_at nodes n.0)))

  pub length-plain : length (plain nodes) ≡ length nodes
  length-plain = length-map nodes without_list_presence

  pub node_at-plain : (p : List Tagged) (k : Key) → node_at (plain nodes) p k ≡ node_at nodes p k
  node_at-plain p k = ap (λ f. option_and_then (walk f root) (trail p k)) child_of-plain

  pub tree-plain : AreTree nodes → AreTree (plain nodes)
  tree-plain tree = subst (λ f. IsTree f (length (plain nodes))) (sym child_of-plain) (subst (λ n. IsTree (child_of nodes) n) (sym length-plain) tree)

  pub tree_of-plain : AreTree (plain nodes) → AreTree nodes
  tree_of-plain tree = subst (λ f. IsTree f (length nodes)) child_of-plain (subst (λ n. IsTree (child_of (plain nodes)) n) length-plain tree)

  pub room-plain : (n : NodeNumber) (keys : List Key) → HasRoomAlong nodes n keys → HasRoomAlong (plain nodes) n keys
  room-plain n keys room front rest j e w =
      subst (λ z. z.presence.1 ≡ true) (sym (node_of-plain j)) (room front rest j e (ap (λ f. walk f n front) (sym child_of-plain) ∙ w))

  pub ready_of-plain : (n : NodeNumber) (keys : List Key) → IsReady (plain nodes) n keys → IsReady nodes n keys
  ready_of-plain n keys ready = record {
    tree = tree_of-plain ready.tree;
    within = subst (λ z. n.0 < z) length-plain ready.within;
    reached = subst (λ f. IsSome (walk f n keys)) child_of-plain ready.reached;
    room = λ front rest j e w.
        subst (λ z. z.presence.1 ≡ true) (node_of-plain j) (ready.room front rest j e (ap (λ f. walk f n front) child_of-plain ∙ w));
  }

  -- a write to another part than the list presence
  pub write-plain : (n : NodeNumber) (f : Node → Node) → ((node : Node) → without_list_presence (f node) ≡ f (without_list_presence node))
      → plain (set nodes n.0 (f (node_of nodes n))) ≡ set (plain nodes) n.0 (f (node_of (plain nodes) n))
  write-plain n f apart =
      map-set without_list_presence nodes n.0 (f (node_of nodes n))
      ∙ ap (set (plain nodes) n.0) (apart (node_of nodes n) ∙ ap f (sym (node_of-plain n)))

  -- an update of the list presence
  pub list_presence-plain : (n : NodeNumber) (element : Option Id) (child : NodeNumber) → plain (with_list_presence nodes n element child) ≡ plain nodes
  list_presence-plain n None child = refl
  list_presence-plain n (Some id) child =
      map-set without_list_presence nodes n.0 (with_element_presence id (is_node_present nodes (Some child)) (node_of nodes n))
      ∙ ap (set (plain nodes) n.0) (same (node_of nodes n) ∙ sym (node_of-plain n))
      ∙ set-get_or (plain nodes) n.0 blank_node
    where
      same : (node : Node) → without_list_presence (with_element_presence id (is_node_present nodes (Some child)) node) ≡ without_list_presence node
      same node = λ i. record node { order = (all_absent-with node.order.0 id (is_node_present nodes (Some child)) i, node.order.1); children = (node.children.0, []) }

  -- other blocks of children that aren't gone
  pub blocks-plain : (n : NodeNumber) (blocks : List (List (Key × NodeNumber))) → plain (set nodes n.0 (with_blocks blocks (node_of nodes n))) ≡ plain nodes
  blocks-plain n blocks =
      map-set without_list_presence nodes n.0 (with_blocks blocks (node_of nodes n))
      ∙ ap (set (plain nodes) n.0) (sym (node_of-plain n))
      ∙ set-get_or (plain nodes) n.0 blank_node

-- nodes have the same children where their plain ones have
pub shape_of-plain : (old new : List Node) → child_of (plain new) ≡ child_of (plain old) → child_of new ≡ child_of old
shape_of-plain old new same = sym (child_of-plain new) ∙ same ∙ child_of-plain old

pub tree_same : (old new : List Node) → length new ≡ length old → child_of new ≡ child_of old → AreTree old → AreTree new
tree_same old new same shape tree = subst (λ f. IsTree f (length new)) (sym shape) (subst (λ n. IsTree (child_of old) n) (sym same) tree)
