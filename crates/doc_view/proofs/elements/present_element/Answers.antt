use Rattle.std.proofs.Common.{sym, ◌∙◌, true≢false}
use Rattle.op_core.specs.declared.cursor.Key.TheVariants.{Element}
use Rattle.doc_rules.specs.Views.{into_list}
use Rattle.doc_view.proofs.ByNumber.{absent_place, element_number}
use Rattle.doc_view.proofs.elements.present_element.Goals as goal

pub returns-in-None-clause-value : goal.returns-in-None-clause-value
returns-in-None-clause-value c = λ p k at.
    absent_place c.args.tree.now (into_list p k) (Element c.args.id.now)
    (element_number c.args.tree.now p k c.args.list at c.args.id.now ∙ sym c.child_by.ensures.value ∙ c.in-None.is)

pub returns-then-is_present-clause-value : goal.returns-then-is_present-clause-value
returns-then-is_present-clause-value c = λ p k at.
    let place = element_number c.args.tree.now p k c.args.list at c.args.id.now ∙ sym c.child_by.ensures.value ∙ c.in-Some.is in
    (place, (c.is_present.ensures (into_list p k) (Element c.args.id.now) place).0 c.if-is_present.true)

pub returns-clause-value : goal.returns-clause-value
returns-clause-value c = λ p k at.
    let place = element_number c.args.tree.now p k c.args.list at c.args.id.now ∙ sym c.child_by.ensures.value ∙ c.in-Some.is in
    λ here. true≢false (sym ((c.is_present.ensures (into_list p k) (Element c.args.id.now) place).1 here) ∙ c.if-is_present.false)
