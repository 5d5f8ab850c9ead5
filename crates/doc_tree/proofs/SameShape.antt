-- Where the children of nodes stay, so do the nodes of places.
use Rattle.std.proofs.Common.{◌≡◌, List, Option, Some, None, refl, ap, ◌∙◌}
use Rattle.std.specs.Prelude.{option_and_then}
use Rattle.doc_api.specs.Words.{Key, Tagged}
use Rattle.list_order.specs.Entries.{ids_of}
use Rattle.doc_nodes.specs.declared.node.NodeNumber.{NodeNumber}
use Rattle.doc_nodes.specs.declared.node.Node.{Node}
use Rattle.doc_nodes.specs.Walk.{walk, root, trail, list_trail}
use Rattle.doc_nodes.specs.Nodes.{node_of, child_of, node_at, list_node_at}
use Rattle.doc_tree.specs.Facts.{ids_in}

module _ (old new : List Node) (shape : child_of new ≡ child_of old) where
  pub same_node_at : (q : List Tagged) (j : Key) → node_at new q j ≡ node_at old q j
  same_node_at q j = ap (λ f. option_and_then (walk f root) (trail q j)) shape

  -- and where each node keeps its list, so do the lists of places
  pub same_ids : ((c : NodeNumber) → (node_of new c).order ≡ (node_of old c).order) → (q : List Tagged)
      → ids_in new (list_node_at new q) ≡ ids_in old (list_node_at old q)
  same_ids kept q = ap (λ f. ids_in new (option_and_then (walk f root) (list_trail q))) shape ∙ go (list_node_at old q)
    where
      go : (o : Option NodeNumber) → ids_in new o ≡ ids_in old o
      go None = refl
      go (Some c) = ap (λ o. ids_of o.0) (kept c)
