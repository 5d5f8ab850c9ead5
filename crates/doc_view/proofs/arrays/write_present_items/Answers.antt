use Rattle.std.proofs.Common.{List, [], ◌++◌, refl, subst}
use Rattle.std.proofs.lemmas.List.{take_all}
use Rattle.doc_api.specs.Words.{Id}
use Rattle.doc_tree.specs.Nodes.{tree_facts}
use Rattle.doc_rules.specs.Views.{into_list}
use Rattle.doc_rules.specs.Sorted.AreThose.{none}
use Rattle.doc_rules.specs.Encoded.{item_data}
use Rattle.doc_view.specs.ByNumber.{HasItems}
use Rattle.doc_view.proofs.ByNumber.{items_step}
use Rattle.json_text.proofs.Texts.{told_nothing, told_further}
use Rattle.doc_view.proofs.arrays.write_present_items.Goals as goal

pub loop-id-init : goal.loop-id-init
loop-id-init c = ([], λ p k at. ([], none, tt), told_nothing item_data c.args.text.now)

pub loop-id-preserved : goal.loop-id-preserved
loop-id-preserved c =
    let before = c.loop-id.invariant in
    let more = c.in_ok-write_present_item.ensures in (
      before.0 ++ more.0,
      λ p k at.
          items_step (tree_facts c.args.tree.now) (into_list p k) c.args.ids.now c.loop-id.id-index c.id-item.result before.0 more.0 (before.0 ++ more.0)
          c.loop-id-test.true c.id-item.is (before.1 p k at) (more.1 p k at) refl,
      told_further item_data c.args.text.now c.loop-id.text c.write_present_item.new.text before.0 more.0 before.2 more.2,
    )

pub returns : goal.returns
returns c =
    let items = c.loop-id.invariant in (
      items.0,
      λ p k at.
          subst (λ (ids : List Id). HasItems (tree_facts c.args.tree.now) (into_list p k) ids items.0)
          (take_all c.loop-id.id-index c.args.ids.now c.loop-id-test.false) (items.1 p k at),
      items.2,
    )
