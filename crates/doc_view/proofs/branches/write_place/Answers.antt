use Rattle.std.proofs.Common.{[], sym, ◌∙◌}
use Rattle.op_core.specs.Wire.{list_data}
use Rattle.doc_view.specs.Showing.{IsShown}
use Rattle.doc_view.proofs.ByNumber.{nothing_shown}
use Rattle.doc_view.proofs.Writing.{one_put, one_at}
use Rattle.doc_view.proofs.branches.write_place.Goals as goal

pub returns-in-None : goal.returns-in-None
returns-in-None c =
    one_put (IsShown c.args.tree.now c.args.path.now c.args.key.now) (list_data []) c.args.text.now c.empty_list.new.self c.empty_list.result
    (nothing_shown c.args.tree.now c.args.path.now c.args.key.now (sym c.node_at.ensures ∙ c.in-None.is)) c.empty_list.ensures

pub returns-in-Some : goal.returns-in-Some
returns-in-Some c =
    one_at c.args.tree.now c.in-Some.at (IsShown c.args.tree.now) c.args.path.now c.args.key.now c.args.text.now c.write_node.new.text c.write_node.result
    (sym c.node_at.ensures ∙ c.in-Some.is) c.write_node.ensures
