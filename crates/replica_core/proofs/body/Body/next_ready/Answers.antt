use Rattle.replica_core.proofs.body.Body.next_ready.Goals as goal

pub next_ready-requires : goal.next_ready-requires
next_ready-requires c = c.self.invariant.current

pub returns-clause-least : goal.returns-clause-least
returns-clause-least c = rw (← c.self.view_is) c.next_ready.ensures.least

pub returns-clause-operation : goal.returns-clause-operation
returns-clause-operation c = rw (← c.self.view_is) c.next_ready.ensures.operation
