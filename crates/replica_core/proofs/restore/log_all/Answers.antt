use Rattle.std.proofs.Common.{◌≡◌, List, [], ◌∷◌, ◌++◌, Err, ap, sym, ◌∙◌}
use Rattle.std.proofs.lemmas.List.{take_all}
use Rattle.op_core.specs.Op.{Op}
use Rattle.doc_rules.specs.Cause.{misfit_of}
use Rattle.list_laws.proofs.Reading.{take_read}
use Rattle.replica_core.proofs.FirstMisfits.{misfit_here, cause_of_some}
use Rattle.replica_core.proofs.restore.log_all.Goals as goal

pub loop-place-preserved : goal.loop-place-preserved
loop-place-preserved c =
    let op = c.index-operations-place.result in (
      c.in-Ok.ensures.ok ∙ ap (λ (l : List Op). l ++ op ∷ []) c.loop-place.invariant.0
          ∙ sym (take_read c.args.operations.now c.loop-place.place op c.loop-place-test.true c.index-operations-place.is),
      c.log_next.ensures.agrees,
    )

pub returns-clause-ok : goal.returns-clause-ok
returns-clause-ok c = c.loop-place.invariant.0 ∙ take_all c.loop-place.place c.args.operations.now c.loop-place-test.false

pub returns-in-Err-Some-clause-err : goal.returns-in-Err-Some-clause-err
returns-in-Err-Some-clause-err c =
    let op = c.index-operations-place.result in
    let log = c.loop-place.log.operations in
    rw c.in-Err-Some.cause-is
    (misfit_here c.args.operations.now log c.loop-place.place op c.in-Err-Some.cause c.loop-place.invariant.0 c.loop-place-test.true c.index-operations-place.is
    c.log_next.ensures.good
    (cause_of_some (λ cause. misfit_of op log ≡ Err cause) c.in-Err-Some.field-0 c.in-Err-Some.cause c.in-Err-Some.field-0-is c.in-Err-Some.ensures.err))
