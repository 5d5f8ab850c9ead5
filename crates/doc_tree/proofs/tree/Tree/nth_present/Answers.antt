use Rattle.std.proofs.Common.{◌≡◌, ◌∙◌, filter, slice_get, sym, ap, Some, None}
use Rattle.op_core.specs.declared.cursor.Key.TheVariants.{Element}
use Rattle.doc_nodes.specs.Nodes.{list_node_at}
use Rattle.doc_tree.specs.Nodes.{tree_present}
use Rattle.doc_tree.proofs.Reading.{ids_absent}
use Rattle.doc_tree.proofs.Elements.{elements_listed}
use Rattle.doc_tree.proofs.tree.Tree.nth_present.Goals as goal

pub returns-in-None : goal.returns-in-None
returns-in-None c =
    let tree = c.args.self.now in
    let path = c.args.path.now in
    let absent : list_node_at tree.0 path ≡ None = ap (list_node_at tree.0) (sym c.keys.ensures) ∙ sym c.list_at.ensures ∙ c.in-None.is in
    ap (λ l. slice_get (filter (λ id. tree_present tree path (Element id)) l) c.args.index) (ids_absent tree.0 path absent)

pub returns-in-Some : goal.returns-in-Some
returns-in-Some c =
    let tree = c.args.self.now in
    let path = c.args.path.now in
    let found : list_node_at tree.0 path ≡ Some c.in-Some.at = ap (list_node_at tree.0) (sym c.keys.ensures) ∙ sym c.list_at.ensures ∙ c.in-Some.is in
    c.nth_present_of.ensures ∙ ap (λ l. slice_get l c.args.index) (elements_listed tree.0 path c.in-Some.at found)
