use Rattle.std.proofs.Common.{◌∙◌, ap, sym}
use Rattle.stored_log.specs.Log.{LogState}
use Rattle.served_log.specs.Named.{replica_name}
use Rattle.served_log.proofs.Left.{leaves_folded, leaves_unfolded, serves_folded}
use Rattle.served_log.proofs.stored.fold_and_serve.Goals as goal

pub restore_and_serve-served-requires-clause-named : goal.restore_and_serve-served-requires-clause-named
restore_and_serve-served-requires-clause-named g c κs within =
    c.requires.named ∙ ap (λ (k : LogState). replica_name c.args.begun.serving.name.now k.epoch) (sym c.in-Ok.ensures.same)

pub returns-in-Ok-clause-served : goal.returns-in-Ok-clause-served
returns-in-Ok-clause-served g c =
    let folded = c.in-Ok.ensures in
    let served = c.restore_and_serve-served.ensures in
    serves_folded g.L.StoredLog g.C.Connect.bytes g.C.Connect.follows c.args.begun.replica _ _ c.args.stored c.in-Ok.folded c.restore_and_serve-served.new.stored c.restore_and_serve-served.result c.end.result.served c.end.result.closed c.end.result.store _ _
    c.end.ensures.served folded.same c.requires.works served.alone (folded.folded c.requires.works) served.served served.copied served.works c.end.ensures.held

pub returns-in-Ok-clause-left : goal.returns-in-Ok-clause-left
returns-in-Ok-clause-left g c =
    let served = c.restore_and_serve-served.ensures in
    leaves_folded g.L.StoredLog c.args.begun.replica _ c.args.stored c.in-Ok.folded c.restore_and_serve-served.new.stored c.end.result.has_failed c.end.result.closed c.end.result.store
    c.end.ensures.failed c.in-Ok.ensures.same served.alone served.grown c.end.ensures.held c.end.ensures.left

pub returns-in-Err-clause-left : goal.returns-in-Err-clause-left
returns-in-Err-clause-left g c = leaves_unfolded g.L.StoredLog _ c.args.stored c.in-Err.why c.in-Err.store (c.in-Err.ensures.left c.requires.works)
