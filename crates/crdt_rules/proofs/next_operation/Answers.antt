use Rattle.crdt_rules.proofs.NextStep as NextStep
use Rattle.crdt_rules.proofs.next_operation.Goals as goal

pub returns-clause-facts : goal.returns-clause-facts
returns-clause-facts c = λ log op good. NextStep.facts_push log good op

pub returns-clause-reference : goal.returns-clause-reference
returns-clause-reference c = λ log op good fits insertion. NextStep.reference_stands log good op fits insertion

pub returns-clause-new : goal.returns-clause-new
returns-clause-new c = λ log op good fits insertion. NextStep.id_is_new log good op fits insertion
