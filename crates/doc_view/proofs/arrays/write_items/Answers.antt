use Rattle.std.proofs.Common.{[], sym, ◌∙◌}
use Rattle.doc_tree.specs.Nodes.{tree_facts}
use Rattle.doc_rules.specs.Views.{AreItems}
use Rattle.doc_rules.specs.Encoded.{item_data}
use Rattle.doc_view.proofs.ByNumber.{no_items}
use Rattle.doc_view.proofs.WritingAll.{array_put, written_at}
use Rattle.doc_view.proofs.arrays.write_items.Goals as goal

pub returns-in-None : goal.returns-in-None
returns-in-None c =
    array_put item_data (AreItems (tree_facts c.args.tree.now) c.args.path.now c.args.key.now) c.args.text.now c.empty_list.new.self [] c.empty_list.result
    (no_items c.args.tree.now c.args.path.now c.args.key.now (sym c.node_at.ensures ∙ c.in-None.is)) c.empty_list.ensures

pub returns-in-Some : goal.returns-in-Some
returns-in-Some c =
    written_at item_data c.args.tree.now c.in-Some.at (AreItems (tree_facts c.args.tree.now)) c.args.path.now c.args.key.now c.args.text.now c.write_node_items.new.text
    c.write_node_items.result (sym c.node_at.ensures ∙ c.in-Some.is) c.write_node_items.ensures
