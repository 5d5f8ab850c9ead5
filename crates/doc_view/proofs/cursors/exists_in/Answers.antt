use Rattle.doc_view.proofs.cursors.exists_in.Goals as goal

pub returns-in-Element-clause-value : goal.returns-in-Element-clause-value
returns-in-Element-clause-value c = rw c.in-Element.is c.has_element.ensures.value
