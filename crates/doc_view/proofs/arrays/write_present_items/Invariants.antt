use Rattle.std.proofs.Common.{take}
use Rattle.doc_tree.specs.Nodes.{tree_facts}
use Rattle.doc_rules.specs.Views.{into_list}
use Rattle.doc_rules.specs.Encoded.{item_data}
use Rattle.doc_view.specs.ByNumber.{AtNode, HasItems}
use Rattle.doc_view.specs.Writing.{WritesAll}
use Rattle.doc_view.proofs.arrays.write_present_items.Given as goal

abbrev pub invariant-loop-id : goal.invariant-loop-id
invariant-loop-id l =
    WritesAll item_data (λ items. AtNode l.tree l.list (λ p k. HasItems (tree_facts l.tree) (into_list p k) (take l.id-index l.ids) items)) l.initial.text l.text
