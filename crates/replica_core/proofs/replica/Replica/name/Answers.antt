use Rattle.std.proofs.Common.{ap}
use Rattle.doc_rules.specs.Replica.{Replica}
use Rattle.replica_core.proofs.replica.Replica.name.Goals as goal

pub returns : goal.returns
returns c = ap (λ (d : Replica). d.name) c.self.view_is
