use Rattle.served_log.proofs.Left.{leaves_behind, leaves_unbegun, serves_stored}
use Rattle.served_log.proofs.stored.serve_stored.Goals as goal

pub returns-in-Ok-clause-served : goal.returns-in-Ok-clause-served
returns-in-Ok-clause-served g c =
    let ended = c.fold_and_serve.result in
    serves_stored g.L.StoredLog g.C.Connect.bytes g.C.Connect.follows _ _ c.args.stored c.next_replica_name.new.stored ended.served ended.closed ended.store _ _ c.in-Ok.ensures.raised c.next_replica_name.ensures.alone c.fold_and_serve.ensures.served

pub returns-in-Ok-clause-left : goal.returns-in-Ok-clause-left
returns-in-Ok-clause-left g c =
    let ended = c.fold_and_serve.result in
    leaves_behind g.L.StoredLog _ c.args.stored c.next_replica_name.new.stored ended.has_failed ended.closed ended.store c.in-Ok.ensures.raised c.next_replica_name.ensures.alone c.fold_and_serve.ensures.left

pub returns-in-Err-clause-left : goal.returns-in-Err-clause-left
returns-in-Err-clause-left g c =
    let ended = c.end.result in
    leaves_unbegun g.L.StoredLog _ c.args.stored c.next_replica_name.new.stored c.next_replica_name.result ended.has_failed ended.closed ended.store
    c.end.ensures.failed c.next_replica_name.ensures.failed c.next_replica_name.ensures.kept c.next_replica_name.ensures.alone c.end.ensures.held c.end.ensures.left
