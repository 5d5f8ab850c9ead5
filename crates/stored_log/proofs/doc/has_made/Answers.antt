use Rattle.std.proofs.Common.{is_some, ap, ◌∙◌}
use Rattle.stored_log.proofs.Makers.{made_some}
use Rattle.stored_log.proofs.doc.has_made.Goals as goal

pub returns : goal.returns
returns c = c.is_some.ensures ∙ ap is_some c.last_counter.ensures ∙ made_some c.args.log.now.operations c.args.replica.now
