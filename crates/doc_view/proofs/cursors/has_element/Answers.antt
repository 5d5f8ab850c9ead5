use Rattle.std.proofs.Common.{◌≡◌, Some, None, sym, ap, ◌∙◌}
use Rattle.std.specs.List.{list_any}
use Rattle.crdt_rules.specs.Same.{id_eq}
use Rattle.doc_tree.specs.Nodes.{tree_list}
use Rattle.doc_tree.proofs.Reading.{ids_read, ids_absent}
use Rattle.doc_view.proofs.cursors.has_element.Goals as goal

pub returns-in-None-clause-value : goal.returns-in-None-clause-value
returns-in-None-clause-value c =
    let tree = c.args.tree.now in
    let path = c.args.path.now in
    let absent : tree_list tree path ≡ None = sym c.list_node.ensures.node ∙ c.in-None.is in
    ap (list_any (id_eq c.args.id.now)) (ids_absent tree.0 path absent)

pub returns-in-Some-clause-value : goal.returns-in-Some-clause-value
returns-in-Some-clause-value c =
    let tree = c.args.tree.now in
    let path = c.args.path.now in
    let found : tree_list tree path ≡ Some c.in-Some.node = sym c.list_node.ensures.node ∙ c.in-Some.is in
    c.has_element_of.ensures ∙ ap (list_any (id_eq c.args.id.now)) (ids_read tree.0 path c.in-Some.node found)
