use Rattle.std.proofs.Common.{length, sym, ap, ◌∙◌}
use Rattle.stored_log.proofs.in_order.count.Goals as goal

pub returns-in-Some : goal.returns-in-Some
returns-in-Some c = c.len.ensures ∙ ap length c.in-Some.ensures.log

pub returns-in-None : goal.returns-in-None
returns-in-None c = ap length (sym c.in-None.ensures.log)
