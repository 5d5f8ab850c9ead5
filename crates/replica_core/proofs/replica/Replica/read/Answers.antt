use Rattle.replica_core.proofs.replica.Replica.read.Goals as goal

pub returns-clause-answer : goal.returns-clause-answer
returns-clause-answer c = rw (← c.self.view_is) (c.read.ensures.answer c.self.inside.name)
