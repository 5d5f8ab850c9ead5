use Rattle.std.proofs.Common.{inr, refl, sym, ◌∙◌}
use Rattle.replica_c.proofs.Opening.{unfit_unread}
use Rattle.replica_c.proofs.open.unread.Goals as goal

pub returns-in-Ok : goal.returns-in-Ok
returns-in-Ok c = λ all unread. inr (c.args.operations.now, unread (c.is_memory.ensures c.if-is_memory.false), c.in-Ok.ensures.ok, refl)

pub returns-in-Err : goal.returns-in-Err
returns-in-Err c = λ all unread.
    unfit_unread all c.args.operations.now c.args.cause c.in-Err.misfit (unread (c.is_memory.ensures c.if-is_memory.false)) c.in-Err.ensures.err
