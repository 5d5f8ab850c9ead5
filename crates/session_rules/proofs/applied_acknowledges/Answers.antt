use Rattle.session_rules.proofs.Applying as Applying
use Rattle.session_rules.proofs.applied_acknowledges.Goals as goal

pub returns-clause-applied : goal.returns-clause-applied
returns-clause-applied c = λ origin number s t command. Applying.applied_first origin number s t command

pub returns-clause-count : goal.returns-clause-count
returns-clause-count c = λ origin number s t command. Applying.counted origin number s t command
