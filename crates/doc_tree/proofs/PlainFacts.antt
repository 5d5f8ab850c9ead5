-- The facts are those of the plain nodes.
use Rattle.std.proofs.Common.{◌≡◌, List, Option, Some, None, refl, ap, ◌∙◌}
use Rattle.std.specs.Prelude.{is_some, option_and_then}
use Rattle.doc_api.specs.Words.{Id, Key, Tagged}
use Rattle.presence_set.specs.ById.{get}
use Rattle.list_order.specs.Entries.{ids_of}
use Rattle.list_order.proofs.Entries.{ids_of-all_absent}
use Rattle.doc_nodes.specs.declared.node.NodeNumber.{NodeNumber}
use Rattle.doc_nodes.specs.declared.node.Node.{Node}
use Rattle.doc_nodes.specs.Walk.{walk, root, list_trail}
use Rattle.doc_nodes.specs.Nodes.{node_of, node_at, list_node_at}
use Rattle.doc_tree.specs.Facts.{role_in, part_in, ids_in, role_at, facts_of}
use Rattle.doc_nodes.specs.ListPresence.{without_list_presence, plain}
use Rattle.doc_nodes.proofs.Plain.{child_of-plain, node_of-plain, node_at-plain}

module _ (nodes : List Node) where
  part_in-plain : {X : Type 0} (part : Node → X) → ((node : Node) → part (without_list_presence node) ≡ part node) → (n : NodeNumber) → part (node_of (plain nodes) n) ≡ part (node_of nodes n)
  part_in-plain part same n = ap part (node_of-plain nodes n) ∙ same (node_of nodes n)

  pub role-plain : (p : List Tagged) (k : Key) (i : Id) → role_at (plain nodes) p k i ≡ role_at nodes p k i
  unfolding role_at
  role-plain p k i = ap (λ o. role_in (plain nodes) o i) (node_at-plain nodes p k) ∙ go (node_at nodes p k)
    where
      go : (o : Option NodeNumber) → role_in (plain nodes) o i ≡ role_in nodes o i
      go None = refl
      go (Some c) = ap (λ z. get z.presence.0 i) (node_of-plain nodes c)

  value-plain : {X : Type 0} (part : Node → List (Id × X)) → ((node : Node) → part (without_list_presence node) ≡ part node) → (p : List Tagged) (k : Key) (i : Id)
      → part_in part (plain nodes) (node_at (plain nodes) p k) i ≡ part_in part nodes (node_at nodes p k) i
  value-plain {X} part same p k i = ap (λ o. part_in part (plain nodes) o i) (node_at-plain nodes p k) ∙ go (node_at nodes p k)
    where
      go : (o : Option NodeNumber) → part_in part (plain nodes) o i ≡ part_in part nodes o i
      go None = refl
      go (Some c) = ap (λ l. get l i) (part_in-plain part same c)

  ids-plain : (p : List Tagged) → ids_in (plain nodes) (list_node_at (plain nodes) p) ≡ ids_in nodes (list_node_at nodes p)
  ids-plain p = ap (λ f. ids_in (plain nodes) (option_and_then (walk f root) (list_trail p))) (child_of-plain nodes) ∙ go (list_node_at nodes p)
    where
      go : (o : Option NodeNumber) → ids_in (plain nodes) o ≡ ids_in nodes o
      go None = refl
      go (Some c) = ap (λ z. ids_of z.order.0) (node_of-plain nodes c) ∙ ids_of-all_absent (node_of nodes c).order.0

  pub facts-plain : facts_of (plain nodes) ≡ facts_of nodes
  unfolding facts_of
  facts-plain =
      λ x. record {
        present = λ p k i. ap is_some (role-plain p k i) x;
        register = λ p k i. value-plain (λ z. z.register.0) (λ z. refl) p k i x;
        counter = λ p k i. value-plain (λ z. z.counter.0) (λ z. refl) p k i x;
        order = λ p. ids-plain p x;
      }
