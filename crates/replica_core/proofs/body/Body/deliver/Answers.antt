use Rattle.doc_rules.specs.Replica.{find_id}
use Rattle.replica_core.specs.Whole.{replica_with}
use Rattle.replica_core.proofs.Meeting.{meets_as, none_found, delivered_logged}
use Rattle.replica_core.proofs.body.Body.deliver.Goals as goal

pub deliver_unlogged-requires : goal.deliver_unlogged-requires
deliver_unlogged-requires c = none_found c.args.op (find_id c.args.self.now.log c.args.op.id) c.in-None.ensures

pub returns-in-Some : goal.returns-in-Some
returns-in-Some c =
    let r = replica_with c.args.name c.args.self.now in
    meets_as r _ _ _ r (delivered_logged r c.args.op c.in-Some.is_same c.in-Some.ensures) (c.known_or_conflict.ensures r)
