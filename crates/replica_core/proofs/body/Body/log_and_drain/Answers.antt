use Rattle.std.proofs.Common.{subst, arith}
use Rattle.doc_rules.specs.Replica.{Drains}
use Rattle.replica_core.specs.Whole.{Contents, replica_with}
use Rattle.replica_core.proofs.body.Body.log_and_drain.Goals as goal

pub overflow_add-result : goal.overflow_add-result
overflow_add-result c = omega (arith, c.drain-drained.ensures.few)

pub returns-clause-ok : goal.returns-clause-ok
returns-clause-ok c name = (
  c.drain-drained.result.logged,
  omega arith,
  c.id-id.ensures.value,
  subst (λ (b : Contents). Drains (replica_with name b) c.drain-drained.result.logged c.drain-drained.result.dropped (replica_with name c.drain-drained.new.self))
      c.in_ok-append.ensures.ok (c.drain-drained.ensures.drained name),
)
