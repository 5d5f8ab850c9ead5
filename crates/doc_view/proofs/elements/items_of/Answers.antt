use Rattle.std.proofs.Common.{List, [], sym, subst}
use Rattle.std.proofs.lemmas.List.{take_all}
use Rattle.doc_api.specs.Words.{Id, Scalar}
use Rattle.doc_tree.specs.Nodes.{tree_facts}
use Rattle.doc_rules.specs.Views.{into_list}
use Rattle.doc_rules.specs.Sorted.AreThose.{none}
use Rattle.doc_view.specs.ByNumber.{HasItems}
use Rattle.doc_view.proofs.ByNumber.{items_step}
use Rattle.doc_view.proofs.elements.items_of.Goals as goal

pub loop-id-init : goal.loop-id-init
loop-id-init c = λ p k at.
    subst (λ (items : List (Id × List Scalar)). HasItems (tree_facts c.args.list.tree.now) (into_list p k) [] items) (sym c.new-items.ensures.items) ([], none, tt)

pub loop-id-preserved : goal.loop-id-preserved
loop-id-preserved c =
    let added = c.in_ok-push_item.ensures in
    λ p k at.
    items_step (tree_facts c.args.list.tree.now) (into_list p k) c.args.ids.now c.loop-id.id-index c.id-item.result c.loop-id.items.items added.0 c.push_item.new.items.items
    c.loop-id-test.true c.id-item.is (c.loop-id.invariant p k at) (added.1 p k at) added.2

pub returns : goal.returns
returns c = λ p k at.
    subst (λ (items : List (Id × List Scalar)). HasItems (tree_facts c.args.list.tree.now) (into_list p k) c.args.ids.now items) (sym c.from.ensures)
    (subst (λ (ids : List Id). HasItems (tree_facts c.args.list.tree.now) (into_list p k) ids c.loop-id.items.items)
    (take_all c.loop-id.id-index c.args.ids.now c.loop-id-test.false) (c.loop-id.invariant p k at))
