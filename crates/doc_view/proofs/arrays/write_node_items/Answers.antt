use Rattle.std.proofs.Common.{◌∙◌}
use Rattle.doc_tree.specs.Nodes.{tree_facts}
use Rattle.doc_rules.specs.Views.{AreItems}
use Rattle.doc_rules.specs.Encoded.{item_data}
use Rattle.doc_view.specs.ByNumber.{AtNode}
use Rattle.doc_view.proofs.ByNumber.{elements_by_number}
use Rattle.doc_view.proofs.WritingAll.{array_written}
use Rattle.doc_view.proofs.arrays.write_node_items.Goals as goal

pub returns : goal.returns
returns c =
    let tree = c.args.tree.now in
    let f = tree_facts tree in
    let n = c.args.at in
    let (items, these, is) = c.in_ok-write_present_items.ensures in
    array_written item_data (λ items. AtNode tree n (λ p k. AreItems f p k items)) c.args.text.now c.end_list.new.self c.begin_list.new.self c.write_present_items.new.text items
    c.end_list.result
    (λ p k at.
    let h = these p k at in
    (h.0, elements_by_number tree p k n at c.as_slice.result.now h.0 (c.as_slice.ensures.value ∙ c.in_ok-ids.ensures.ok) h.1, h.2))
    c.in_ok-begin_list.ensures is c.end_list.ensures
