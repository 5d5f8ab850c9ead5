use Rattle.std.proofs.Common.{[], ◌∷◌, map, refl}
use Rattle.op_core.specs.declared.cursor.Key.TheVariants.{Element}
use Rattle.doc_api.specs.Words.{Id, Scalar}
use Rattle.doc_tree.specs.Nodes.{tree_facts}
use Rattle.doc_rules.specs.Views.{into_list}
use Rattle.doc_rules.specs.Sorted.AreThose.{none, keep, skip}
use Rattle.doc_rules.specs.Encoded.{item_data}
use Rattle.doc_view.specs.ByNumber.{AtNode, HasItems}
use Rattle.doc_view.proofs.ByNumber.{entries_by_number}
use Rattle.json_text.proofs.Texts.{told_nothing}
use Rattle.doc_view.proofs.WritingAll.{one_written}
use Rattle.doc_view.proofs.arrays.write_present_item.Goals as goal

pub returns-in-None : goal.returns-in-None
returns-in-None c = (
  [],
  λ p k at. let absent = (rw c.in-None.is at c.present_element.ensures.value) p k at in ([], skip absent none, tt),
  told_nothing item_data c.args.text.now,
)

pub returns-in-Some : goal.returns-in-Some
returns-in-Some c =
    let tree = c.args.tree.now in
    let id = c.args.id.now in
    let entries = c.register_of.result.now in
    one_written item_data (λ items. AtNode tree c.args.list (λ p k. HasItems (tree_facts tree) (into_list p k) (id ∷ []) items)) c.args.text.now c.write_item.new.text
    (id, map (λ (e : Id × Scalar). e.1) entries) c.write_item.result
    (λ p k at.
    let there = (rw c.in-Some.is at c.present_element.ensures.value) p k at in
    let are = entries_by_number tree (into_list p k) (Element id) c.in-Some.at there.0 entries c.register_of.ensures.value c.register_of.ensures.ascending in
    (id ∷ [], keep there.1 none, (refl, (entries, are, refl), tt)))
    c.write_item.ensures
