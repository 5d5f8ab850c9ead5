use Rattle.std.proofs.Common.{ap}
use Rattle.doc_api.specs.declared.ask.Command.TheVariants as command
use Rattle.replica_core.specs.Outcomes.{reply_of_delivered}
use Rattle.replica_core.specs.Whole.{replica_with}
use Rattle.replica_core.proofs.Keeping.{whole_next}
use Rattle.replica_core.proofs.Lacking.{event_from, deliver_lacks}
use Rattle.replica_core.proofs.replica.Replica.deliver.Goals as goal

pub invariant_of-self : goal.invariant_of-self
invariant_of-self c =
    whole_next c.self.inside.name c.self.inside.body c.deliver.new.self (command.Deliver c.args.op) (reply_of_delivered c.deliver.result) c.self.invariant c.keeps_shape.ensures
    (event_from (replica_with c.self.inside.name c.self.inside.body) c.args.op (reply_of_delivered c.deliver.result)
    (replica_with c.self.inside.name c.deliver.new.self) c.deliver.ensures)

pub returns-clause-event : goal.returns-clause-event
returns-clause-event c =
    rw (← c.self.view_is)
    (event_from (replica_with c.self.inside.name c.self.inside.body) c.args.op (reply_of_delivered c.deliver.result)
    (replica_with c.self.inside.name c.deliver.new.self) c.deliver.ensures)

pub returns-clause-memory : goal.returns-clause-memory
returns-clause-memory c lacks =
    rw (← c.self.view_is)
    (deliver_lacks (replica_with c.self.inside.name c.self.inside.body) c.args.op (reply_of_delivered c.deliver.result)
    (replica_with c.self.inside.name c.deliver.new.self) (ap reply_of_delivered lacks) c.deliver.ensures)
