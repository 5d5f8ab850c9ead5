use Rattle.std.proofs.Common.{List, Ok, sym, subst, ◌∙◌}
use Rattle.doc_api.specs.Words.{Id, Scalar}
use Rattle.doc_tree.specs.Nodes.{tree_facts}
use Rattle.doc_rules.specs.Views.{AreItems}
use Rattle.doc_view.specs.ByNumber.{AtNode}
use Rattle.doc_view.proofs.ByNumber.{no_items}
use Rattle.doc_view.proofs.Reading.{reads}
use Rattle.doc_view.proofs.elements.items.Goals as goal

pub returns-in-None : goal.returns-in-None
returns-in-None c =
    let tree = c.args.tree.now in
    let at = c.args.cursor.now in
    reads (AreItems (tree_facts tree) at.path at.key) (AreItems (tree_facts tree)) at (Ok c.from.result) (sym c.is_head.ensures ∙ c.if-is_head.false) (λ items are. are)
    (subst (λ (items : List (Id × List Scalar)). AreItems (tree_facts tree) at.path at.key items)
    (sym (c.from.ensures ∙ c.new.ensures.items))
    (no_items tree at.path at.key (sym c.node_at.ensures ∙ c.in-None.is)))

pub returns-in-Some : goal.returns-in-Some
returns-in-Some c =
    let tree = c.args.tree.now in
    let at = c.args.cursor.now in
    reads (λ items. AtNode tree c.in-Some.at (λ p k. AreItems (tree_facts tree) p k items)) (AreItems (tree_facts tree)) at c.items_below.result
    (sym c.is_head.ensures ∙ c.if-is_head.false)
    (λ items are. are at.path at.key (sym c.node_at.ensures ∙ c.in-Some.is))
    c.items_below.ensures
