use Rattle.std.proofs.Common.{rules, ◌≡◌, ◌∙◌, length, ap, subst}
use Rattle.list_order.specs.Entries.{present_of, up_to}
use Rattle.doc_nodes.specs.Nodes.{node_of}
use Rattle.doc_nodes.specs.ListPresence.{ListsShowPresence}
use Rattle.doc_tree.specs.Nodes.{TreeValue}
use Rattle.doc_tree.proofs.Elements.{present_up_to}
use Rattle.doc_tree.proofs.tree.Tree.index_of.Goals as goal

pub returns-in-Some : goal.returns-in-Some
returns-in-Some c =
    let nodes = c.args.self.now.0 in
    let node : c.in-Some.node.now ≡ node_of nodes c.args.at = search rules in
    let right : ListsShowPresence nodes = subst (λ (t : TreeValue). ListsShowPresence t.0) c.self.view_is c.self.invariant.1 in
    c.index_of.ensures
    ∙ ap length (ap (λ z. present_of (up_to c.args.id.now z.order.0)) node ∙ present_up_to nodes right c.args.at c.args.id.now)
