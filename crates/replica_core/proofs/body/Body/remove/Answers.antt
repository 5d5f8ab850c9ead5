use Rattle.std.proofs.Common.{◌≤◌, length, not, ap, arith}
use Rattle.doc_api.specs.Words.{Op}
use Rattle.crdt_rules.specs.Same.{id_eq}
use Rattle.list_laws.proofs.Filters.{length-filter}
use Rattle.replica_core.proofs.body.Body.remove.Goals as goal

pub invariant_of-self : goal.invariant_of-self
invariant_of-self c =
    let few : length c.self.inside.held.held ≤ 256 = c.self.invariant.few in record {
      agrees = c.self.invariant.agrees;
      current = c.remove.ensures.current c.self.inside.log.operations c.self.invariant.current;
      few = omega (arith, ap length c.remove.ensures.held, length-filter (λ (o : Op). not (id_eq o.id c.args.id)) c.self.inside.held.held, few);
    }

pub returns-clause-value : goal.returns-clause-value
returns-clause-value c = rw (← c.self.view_is) c.remove.ensures.value

pub returns-clause-rest : goal.returns-clause-rest
returns-clause-rest c = rw (← c.self.view_is) (λ i. record { log = c.self.inside.log.operations; held = c.remove.ensures.held i })

pub returns-clause-len : goal.returns-clause-len
returns-clause-len c = rw (← c.self.view_is) c.remove.ensures.len
