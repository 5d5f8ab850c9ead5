use Rattle.std.proofs.Common.{sym, ◌∙◌}
use Rattle.replica_core.specs.Whole.{replica_with}
use Rattle.replica_core.proofs.Meeting.{to_log, from_log}
use Rattle.replica_core.proofs.replica.Replica.may_log.Goals as goal

pub returns-in-Deliver : goal.returns-in-Deliver
returns-in-Deliver c =
    let r = replica_with c.self.inside.name c.self.inside.body in
    let op = c.in-Deliver.op in
    rw (← c.self.view_is, c.in-Deliver.is)
    (λ yes. to_log r op (sym c.would_log.ensures ∙ yes), λ logs. c.would_log.ensures ∙ from_log r op logs)
