use Rattle.std.proofs.Common.{rules, ◌≡◌, ◌∙◌, sym, subst}
use Rattle.doc_nodes.specs.Nodes.{AreTree, child_of}
use Rattle.doc_tree.specs.Nodes.{TreeValue}
use Rattle.doc_tree.proofs.Below.{child_deeper}
use Rattle.doc_tree.proofs.tree.Tree.child_by.Goals as goal

pub returns-in-Some-clause-deeper : goal.returns-in-Some-clause-deeper
returns-in-Some-clause-deeper c = λ x is.
    let value : c.find_beside.result ≡ child_of c.args.self.now.0 c.args.at c.args.key.now = search rules in
    child_deeper c.args.self.now.0 (subst (λ (t : TreeValue). AreTree t.0) c.self.view_is c.self.invariant.0) c.args.at c.args.key.now x (sym value ∙ is)
