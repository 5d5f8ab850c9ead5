use Rattle.replica_core.proofs.Draining.{HasDrained}
use Rattle.replica_core.proofs.body.Body.drain.Given as goal

abbrev pub invariant-loop : goal.invariant-loop
invariant-loop l = HasDrained l.fn.self l.self l.logged l.dropped l.counter
