use Rattle.stored_log.proofs.Reporting.{short_of}
use Rattle.stored_log.proofs.report.check_opened.Goals as goal

pub returns-in-Ok-clause-stopped : goal.returns-in-Ok-clause-stopped
returns-in-Ok-clause-stopped g c = short_of _ c.check_closed.result _ _ _ _ c.check_closed.ensures.good c.check_closed.ensures.cut
