use Rattle.std.proofs.Common.{◌≡◌, ◌∙◌, sym, ap, Some, None}
use Rattle.std.specs.List.{list_any}
use Rattle.crdt_rules.specs.Same.{id_eq}
use Rattle.doc_nodes.specs.Nodes.{list_node_at}
use Rattle.doc_tree.proofs.Reading.{ids_read, ids_absent}
use Rattle.doc_tree.proofs.tree.Tree.has_element.Goals as goal

pub returns-in-None : goal.returns-in-None
returns-in-None c =
    let tree = c.args.self.now in
    let absent : list_node_at tree.0 c.args.path.now ≡ None = sym c.list_at.ensures ∙ c.in-None.is in
    ap (list_any (id_eq c.args.id.now)) (ids_absent tree.0 c.args.path.now absent)

pub returns-in-Some : goal.returns-in-Some
returns-in-Some c =
    let tree = c.args.self.now in
    let found : list_node_at tree.0 c.args.path.now ≡ Some c.in-Some.at = sym c.list_at.ensures ∙ c.in-Some.is in
    c.has_element_of.ensures ∙ ap (list_any (id_eq c.args.id.now)) (ids_read tree.0 c.args.path.now c.in-Some.at found)
