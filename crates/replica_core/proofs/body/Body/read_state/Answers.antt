use Rattle.std.proofs.Common.{inl}
use Rattle.replica_core.proofs.body.Body.read_state.Goals as goal

pub returns-in-Front-clause-answer : goal.returns-in-Front-clause-answer
returns-in-Front-clause-answer c name = rw c.in-Front.is (c.whole_front.ensures name c.args.counts)

pub returns-in-Held-clause-answer : goal.returns-in-Held-clause-answer
returns-in-Held-clause-answer c name = rw c.in-Held.is (c.waiting.ensures name c.args.counts)

pub returns-in-Size-clause-answer : goal.returns-in-Size-clause-answer
returns-in-Size-clause-answer c name = rw c.in-Size.is (inl (c.size.ensures name))

pub returns-in-Size-clause-counted : goal.returns-in-Size-clause-counted
returns-in-Size-clause-counted c name = rw c.in-Size.is (λ is. c.size.ensures name)
