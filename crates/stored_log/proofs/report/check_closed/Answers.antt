use Rattle.std.proofs.Common.{◌∙◌}
use Rattle.stored_log.proofs.Reporting.{cut_of}
use Rattle.stored_log.proofs.report.check_closed.Goals as goal

pub returns-in-Ok-close-clause-cut : goal.returns-in-Ok-close-clause-cut
returns-in-Ok-close-clause-cut g c = cut_of _ c.write_text.result _ _ _ _ (c.as_bytes.ensures.value ∙ c.in-Ok.ensures.text) c.write_text.ensures.cut
