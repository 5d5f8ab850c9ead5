use Rattle.std.proofs.Common.{Decides, ◌∙◌, sym, ap, subst}
use Rattle.doc_nodes.specs.ListPresence.{is_node_present}
use Rattle.doc_rules.specs.Views.{IsPresent}
use Rattle.doc_tree.specs.Nodes.{tree_facts}
use Rattle.doc_view.proofs.Presence.{tree_decides}
use Rattle.doc_view.proofs.elements.is_present.Goals as goal

pub returns : goal.returns
returns c = λ p k at.
    let tree = c.args.tree.now in
    subst (λ b. Decides b (IsPresent (tree_facts tree) p k)) (ap (is_node_present tree.0) at ∙ sym c.is_node_present.ensures) (tree_decides tree p k)
