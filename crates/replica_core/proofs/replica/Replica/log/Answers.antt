use Rattle.std.proofs.Common.{ap, subst, ◌∙◌}
use Rattle.doc_rules.specs.Replica.{Replica, IsValidReplica}
use Rattle.replica_core.proofs.replica.Replica.log.Goals as goal

pub returns-clause-log : goal.returns-clause-log
returns-clause-log c = c.log.ensures.log ∙ ap (λ (d : Replica). d.log) c.self.view_is

pub returns-clause-kept : goal.returns-clause-kept
returns-clause-kept c = subst IsValidReplica c.self.view_is c.self.invariant.kept
