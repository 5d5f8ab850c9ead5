use Rattle.std.proofs.Common.{ap, sym, ◌∙◌}
use Rattle.doc_rules.specs.Document.{Document, new_document}
use Rattle.share_ledger.specs.Counters.{stored_ids}
use Rattle.doc_rules.specs.Seats.{operation_ids}
use Rattle.served_log.proofs.restore.restore_one.Goals as goal

pub of_log-requires-clause-begun : goal.of_log-requires-clause-begun
of_log-requires-clause-begun g c = c.in_ok-log.ensures.ok ∙ c.requires.begun

pub returns-clause-made : goal.returns-clause-made
returns-clause-made g c =
    c.in-Some.ensures.document.1 ∙ (c.in-Ok.ensures.made.1 ∙ ap (λ ops. new_document c.args.from.now.replica.now ops c.args.from.now.seats) c.in_ok-log.ensures.ok)

pub returns-clause-seat : goal.returns-clause-seat
returns-clause-seat g c = (
  c.in-Some.ensures.seat.0 ∙ c.in-Ok.ensures.made.0,
  c.in-Some.ensures.seat.1 ∙ (ap (λ (d : Document). operation_ids d.replica.log) c.in-Ok.ensures.made.1 ∙ ap operation_ids c.in_ok-log.ensures.ok),
)

pub returns-clause-stored : goal.returns-clause-stored
returns-clause-stored g c =
    c.in-Some.ensures.stored.0 ∙ ap (λ n. operation_ids (g.M.Marker.origin n).log) c.in-Ok.ensures.made.0 ∙ ap operation_ids (sym c.requires.begun)

pub returns-clause-share : goal.returns-clause-share
returns-clause-share g c =
    c.in-Some.ensures.stored.1 ∙ ap (λ n. stored_ids n (operation_ids (g.M.Marker.origin n).log)) c.in-Ok.ensures.made.0
    ∙ ap (λ log. stored_ids c.args.ledger.now (operation_ids log)) (sym c.requires.begun)
