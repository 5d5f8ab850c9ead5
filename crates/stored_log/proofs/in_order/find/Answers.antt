use Rattle.std.proofs.Common.{sym, ap, ◌∙◌}
use Rattle.stored_log.specs.Docs.{Doc}
use Rattle.stored_log.proofs.InOrder.{log_at_place, log_in_gap}
use Rattle.stored_log.proofs.in_order.find.Goals as goal

pub returns-in-Ok-clause-named : goal.returns-in-Ok-clause-named
returns-in-Ok-clause-named c =
    ap (λ (d : Doc). d.name) c.index-docs-at.is ∙ c.in-Ok.ensures.has_key c.index-docs-at.result

pub returns-in-Ok-clause-log : goal.returns-in-Ok-clause-log
returns-in-Ok-clause-log c =
    ap (λ (d : Doc). d.log) c.index-docs-at.is
    ∙ sym (log_at_place c.args.docs.now c.args.name.now c.in-Ok.at c.requires c.in-Ok.ensures c.index-docs-at.result)

pub returns-in-Err-clause-log : goal.returns-in-Err-clause-log
returns-in-Err-clause-log c = log_in_gap c.args.docs.now c.args.name.now c.in-Err.field-0 c.in-Err.ensures
