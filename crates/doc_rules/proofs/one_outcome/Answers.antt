use Rattle.doc_rules.proofs.OneOutcome as OneOutcome
use Rattle.doc_rules.proofs.one_outcome.Goals as goal

pub returns : goal.returns
returns c = OneOutcome.one_outcome
