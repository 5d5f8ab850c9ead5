use Rattle.std.proofs.Common.{rules, ◌≡◌, ◌∙◌, ap, subst, List, IfOk}
use Rattle.doc_api.specs.Words.{Id}
use Rattle.list_order.specs.Entries.{present_of}
use Rattle.doc_nodes.specs.Nodes.{node_of}
use Rattle.doc_nodes.specs.ListPresence.{ListsShowPresence}
use Rattle.doc_tree.specs.Nodes.{TreeValue}
use Rattle.doc_tree.proofs.Elements.{present_by_number}
use Rattle.doc_tree.proofs.tree.Tree.present_elements_of.Goals as goal

pub returns-in-Some-clause-ok : goal.returns-in-Some-clause-ok
returns-in-Some-clause-ok c =
    let nodes = c.args.self.now.0 in
    let node : c.in-Some.node.now ≡ node_of nodes c.args.at = search rules in
    let right : ListsShowPresence nodes = subst (λ (t : TreeValue). ListsShowPresence t.0) c.self.view_is c.self.invariant.1 in
    subst (λ (l : List Id). IfOk c.present_in_order.result (λ ids. ids.items ≡ l))
    (ap (λ z. present_of z.order.0) node ∙ present_by_number nodes right c.args.at) c.present_in_order.ensures.ok
