use Rattle.std.proofs.Common.{ap, subst}
use Rattle.crdt_rules.specs.Log.{IsGood}
use Rattle.replica_core.specs.AgreesWith.{AgreesWith}
use Rattle.replica_core.specs.Whole.{Contents}
use Rattle.replica_core.proofs.body.Body.tree.Goals as goal

pub returns-clause-agrees : goal.returns-clause-agrees
returns-clause-agrees c = subst (AgreesWith c.self.inside.tree) (ap (λ (b : Contents). b.log) c.self.view_is) c.self.invariant.agrees

pub returns-clause-good : goal.returns-clause-good
returns-clause-good c = subst IsGood (ap (λ (b : Contents). b.log) c.self.view_is) c.keeps_good.ensures
