use Rattle.std.proofs.Common.{[], ◌∷◌, refl, sym, append-nil}
use Rattle.op_core.specs.declared.cursor.Key.TheVariants.{Element}
use Rattle.doc_rules.specs.Views.{into_list}
use Rattle.doc_rules.specs.Sorted.AreThose.{none, keep, skip}
use Rattle.doc_view.proofs.elements.push_item.Goals as goal

pub returns-in_ok-push : goal.returns-in_ok-push
returns-in_ok-push c =
    let id = c.args.id.now in (
      (id, c.in_ok-scalars.scalars) ∷ [],
      λ p k at.
          let there = (rw c.in-Some.is at c.present_element.ensures.value) p k at in
          (id ∷ [], keep there.1 none, (refl, c.in_ok-scalars.ensures (into_list p k) (Element id) there.0, tt)),
      c.in_ok-push.ensures.items,
    )

pub returns-in_default : goal.returns-in_default
returns-in_default c = (
  [],
  λ p k at. let absent = (rw c.in_default.is at c.present_element.ensures.value) p k at in ([], skip absent none, tt),
  sym (append-nil c.args.items.now.items),
)
