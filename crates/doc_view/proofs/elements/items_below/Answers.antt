use Rattle.std.proofs.Common.{◌∙◌}
use Rattle.doc_tree.specs.Nodes.{tree_facts}
use Rattle.doc_rules.specs.Views.{AreItems, into_list}
use Rattle.doc_view.specs.ByNumber.{AtNode, HasItems}
use Rattle.doc_view.proofs.ByNumber.{elements_by_number}
use Rattle.doc_view.proofs.Reading.{gives}
use Rattle.doc_view.proofs.elements.items_below.Goals as goal

pub returns : goal.returns
returns c =
    let tree = c.args.list.tree.now in
    let f = tree_facts tree in
    let ids = c.as_slice.result.now in
    gives (λ items. AtNode tree c.args.list.at (λ p k. HasItems f (into_list p k) ids items)) (λ items. AtNode tree c.args.list.at (λ p k. AreItems f p k items)) c.items_of.result
    (λ items those p k at.
    let h = those p k at in
    (h.0, elements_by_number tree p k c.args.list.at at ids h.0 (c.as_slice.ensures.value ∙ c.in_ok-ids.ensures.ok) h.1, h.2))
    c.items_of.ensures
