use Rattle.std.proofs.Common.{◌≡◌, Err, refl, sym}
use Rattle.doc_rules.specs.Cause.{misfit_of}
use Rattle.replica_core.proofs.FirstMisfits.{lacking_here}
use Rattle.replica_core.proofs.restore.log_next.Goals as goal

pub log_clone-requires-clause-fits : goal.log_clone-requires-clause-fits
log_clone-requires-clause-fits c = c.in-Ok.ensures.fits refl

pub returns-in-Ok-clause-err : goal.returns-in-Ok-clause-err
returns-in-Ok-clause-err c =
    lacking_here (λ cause. misfit_of c.args.op.now c.args.log.now.operations ≡ Err cause) c.log_clone.result c.log_clone.ensures.err

pub returns-in-Err-clause-err : goal.returns-in-Err-clause-err
returns-in-Err-clause-err c = sym c.in-Err.ensures.cause
