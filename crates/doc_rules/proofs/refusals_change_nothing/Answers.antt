use Rattle.doc_rules.proofs.Refusing as Refusing
use Rattle.doc_rules.proofs.refusals_change_nothing.Goals as goal

pub returns-clause-replica : goal.returns-clause-replica
returns-clause-replica c = λ r command cause s. Refusing.event_same r s command cause

pub returns-clause-document : goal.returns-clause-document
returns-clause-document c = λ d seat command cause e. Refusing.acts_same d e seat command cause

pub returns-clause-acts : goal.returns-clause-acts
returns-clause-acts c = Refusing.act_called

pub returns-clause-reads : goal.returns-clause-reads
returns-clause-reads c = Refusing.read_called

pub returns-clause-opens : goal.returns-clause-opens
returns-clause-opens c = Refusing.opens_same
