use Rattle.std.proofs.Common.{inl}
use Rattle.replica_core.proofs.body.Body.read.Goals as goal

pub returns-in-Resolve-clause-answer : goal.returns-in-Resolve-clause-answer
returns-in-Resolve-clause-answer c name = rw c.in-Resolve.is (c.resolve_place.ensures name c.args.counts)

pub returns-in-Index-clause-answer : goal.returns-in-Index-clause-answer
returns-in-Index-clause-answer c name = rw c.in-Index.is (c.index_of_place.ensures name c.args.counts)

pub returns-in-Look-clause-answer : goal.returns-in-Look-clause-answer
returns-in-Look-clause-answer c name = rw c.in-Look.is (c.look_at_place.ensures name c.args.counts)

pub returns-in-Operations-clause-answer : goal.returns-in-Operations-clause-answer
returns-in-Operations-clause-answer c name = rw c.in-Operations.is (c.operations.ensures name c.args.counts)

pub returns-in-Chains-clause-answer : goal.returns-in-Chains-clause-answer
returns-in-Chains-clause-answer c name = rw c.in-Chains.is (c.chains.ensures name c.args.counts)

pub returns-in-State-clause-answer : goal.returns-in-State-clause-answer
returns-in-State-clause-answer c name = rw c.in-State.is (c.read_state.ensures.answer name)

pub returns-in-IsCopied-clause-answer : goal.returns-in-IsCopied-clause-answer
returns-in-IsCopied-clause-answer c name = rw c.in-IsCopied.is (inl (c.is_copied.ensures name))

pub returns-in-IsCopied-clause-counted : goal.returns-in-IsCopied-clause-counted
returns-in-IsCopied-clause-counted c name = rw c.in-IsCopied.is (λ is. c.is_copied.ensures name)

pub returns-in-State-clause-counted : goal.returns-in-State-clause-counted
returns-in-State-clause-counted c name = rw c.in-State.is (c.read_state.ensures.counted name)
