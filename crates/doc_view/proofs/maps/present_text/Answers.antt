use Rattle.std.proofs.Common.{true≢false, sym, ◌∙◌}
use Rattle.op_core.specs.declared.cursor.Key.TheVariants.{Text}
use Rattle.doc_rules.specs.Sorted.AreThose.{none, keep, skip}
use Rattle.doc_view.proofs.maps.present_text.Goals as goal

pub returns-in-Doc : goal.returns-in-Doc
returns-in-Doc c = λ map is. rw c.in-Doc.is none

pub returns-then-is_present : goal.returns-then-is_present
returns-then-is_present c = λ map is.
    let decides = c.is_present.ensures map (Text c.in-Text.text) (is c.in-Text.text c.in-Text.is) in
    rw c.in-Text.is (keep (decides.0 c.if-is_present.true) none)

pub returns-else-is_present : goal.returns-else-is_present
returns-else-is_present c = λ map is.
    let decides = c.is_present.ensures map (Text c.in-Text.text) (is c.in-Text.text c.in-Text.is) in
    rw c.in-Text.is (skip (λ here. absurd (true≢false (sym (decides.1 here) ∙ c.if-is_present.false))) none)

pub returns-in-Element : goal.returns-in-Element
returns-in-Element c = λ map is. rw c.in-Element.is none

pub returns-in-Head : goal.returns-in-Head
returns-in-Head c = λ map is. rw c.in-Head.is none
