use Rattle.std.proofs.Common.{true≢false, sym, ◌∙◌}
use Rattle.replica_core.proofs.Lacking.{log_kept}
use Rattle.locked_doc.proofs.act.act_without_room.Goals as goal

pub returns-clause-log : goal.returns-clause-log
returns-clause-log c =
    log_kept c.args.replica.now c.args.command c.act.result c.act.new.self
    (λ logs. true≢false (sym (c.may_log.ensures.1 logs) ∙ c.if-may_log.false)) c.act.ensures.event
