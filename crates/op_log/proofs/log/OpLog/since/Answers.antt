use Rattle.std.proofs.Common.{Ok, ap, ◌∙◌}
use Rattle.op_log.proofs.log.OpLog.since.Goals as goal

pub returns : goal.returns
returns c other = ap Ok (c.from.ensures ∙ c.in_ok-first_uncovered.ensures.ok)
