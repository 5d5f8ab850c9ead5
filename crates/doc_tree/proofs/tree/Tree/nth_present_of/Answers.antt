use Rattle.std.proofs.Common.{rules, ◌≡◌, ◌∙◌, slice_get, ap, subst}
use Rattle.list_order.specs.Entries.{present_of}
use Rattle.doc_nodes.specs.Nodes.{node_of}
use Rattle.doc_nodes.specs.ListPresence.{ListsShowPresence}
use Rattle.doc_tree.specs.Nodes.{TreeValue}
use Rattle.doc_tree.proofs.Elements.{present_by_number}
use Rattle.doc_tree.proofs.tree.Tree.nth_present_of.Goals as goal

pub returns-in-Some : goal.returns-in-Some
returns-in-Some c =
    let nodes = c.args.self.now.0 in
    let node : c.in-Some.node.now ≡ node_of nodes c.args.at = search rules in
    let right : ListsShowPresence nodes = subst (λ (t : TreeValue). ListsShowPresence t.0) c.self.view_is c.self.invariant.1 in
    c.nth_present.ensures
    ∙ ap (λ l. slice_get l c.args.index) (ap (λ z. present_of z.order.0) node ∙ present_by_number nodes right c.args.at)
