use Rattle.stored_log.proofs.Reporting.{refused_short}
use Rattle.stored_log.proofs.report.report_fault.Goals as goal

pub returns-in-Refused-clause-stopped : goal.returns-in-Refused-clause-stopped
returns-in-Refused-clause-stopped g c = refused_short _ _ c.write_refusal.ensures.written
