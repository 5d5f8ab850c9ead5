use Rattle.std.proofs.Common.{◌≢◌, List, sym, subst}
use Rattle.op_core.specs.Op.{Op}
use Rattle.doc_api.specs.Words.{NoMemory}
use Rattle.line_feed.specs.Lines.{lines}
use Rattle.replica_c.specs.Stored.{AreWritten, IsUnread}
use Rattle.replica_c.proofs.Opening.{restored_as}
use Rattle.replica_c.proofs.open.restored.Goals as goal

pub returns-in-Ok : goal.returns-in-Ok
returns-in-Ok c =
    restored_as c.restore.result c.args.name c.args.text.now c.as_slice.result.now
    (subst (AreWritten (lines c.args.text.now)) (sym c.as_slice.ensures.value) c.in-Ok.ensures.ok)
    c.restore.ensures.ok c.restore.ensures.good c.restore.ensures.err

pub returns : goal.returns
returns c =
    let cause = c.in-Err.cause in
    c.unread.ensures (lines c.args.text.now)
    (subst (λ (ops : List Op). cause ≢ NoMemory → IsUnread (lines c.args.text.now) ops cause) (sym c.as_slice-in-Err.ensures.value) c.in-Err.ensures.err)
