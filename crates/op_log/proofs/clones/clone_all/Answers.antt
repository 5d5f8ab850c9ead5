use Rattle.std.proofs.Common.{List, ◌++◌, ◌∷◌, [], sym, ap, ◌∙◌}
use Rattle.op_core.specs.Op.{Op}
use Rattle.list_laws.proofs.Reading.{take_read}
use Rattle.op_log.proofs.clones.clone_all.Goals as goal

pub loop-op-preserved : goal.loop-op-preserved
loop-op-preserved c =
    let op = c.op-item.result in
    c.in_ok-push_clone.ensures.ok
    ∙ ap (λ (l : List Op). l ++ op ∷ []) c.loop-op.invariant
    ∙ sym (take_read c.args.operations.now c.loop-op.op-index op c.loop-op-test.true c.op-item.is)
