use Rattle.std.proofs.Common.{ap, subst}
use Rattle.crdt_rules.specs.Log.{IsGood}
use Rattle.replica_core.specs.Whole.{Contents}
use Rattle.replica_core.proofs.body.Body.log.Goals as goal

pub returns-clause-log : goal.returns-clause-log
returns-clause-log c = ap (λ (b : Contents). b.log) c.self.view_is

pub returns-clause-good : goal.returns-clause-good
returns-clause-good c = subst IsGood (ap (λ (b : Contents). b.log) c.self.view_is) c.keeps_good.ensures
