use Rattle.doc_rules.proofs.SameOperations as Same
use Rattle.doc_rules.proofs.same_operations_same_answers.Goals as goal

pub returns-clause-answers : goal.returns-clause-answers
returns-clause-answers c = λ r s mine theirs q answer good other_good same. Same.answers_same r s good other_good same mine theirs q answer

pub returns-clause-roles : goal.returns-clause-roles
returns-clause-roles c = λ log other p k i good other_good same. Same.roles_of-same log other good other_good same p k i

pub returns-clause-front : goal.returns-clause-front
returns-clause-front c = λ log other good other_good same. Same.front_of-same log other good other_good same
