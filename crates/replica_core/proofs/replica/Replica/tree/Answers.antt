use Rattle.std.proofs.Common.{ap, subst}
use Rattle.doc_rules.specs.Replica.{Replica}
use Rattle.replica_core.specs.AgreesWith.{AgreesWith}
use Rattle.replica_core.proofs.replica.Replica.tree.Goals as goal

pub returns : goal.returns
returns c = subst (AgreesWith c.tree.result.now) (ap (λ (d : Replica). d.log) c.self.view_is) c.tree.ensures.agrees
