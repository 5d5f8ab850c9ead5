use Rattle.std.proofs.Common.{take}
use Rattle.doc_tree.specs.Nodes.{tree_facts}
use Rattle.doc_rules.specs.Views.{into_list}
use Rattle.doc_view.specs.ByNumber.{AtNode, HasItems}
use Rattle.doc_view.proofs.elements.items_of.Given as goal

abbrev pub invariant-loop-id : goal.invariant-loop-id
invariant-loop-id l =
    AtNode l.fn.list.tree.now l.fn.list.at (λ p k. HasItems (tree_facts l.fn.list.tree.now) (into_list p k) (take l.id-index l.ids) l.items.items)
