use Rattle.std.proofs.Common.{ok_or}
use Rattle.json_scalar.specs.declared.refusal.Refusal.TheVariants.{NoSuchVariable}
use Rattle.doc_api.specs.declared.ask.Command.TheVariants as command
use Rattle.session_rules.specs.Session.{act, place_at}
use Rattle.session_core.specs.OpenDocuments.{opened_of}
use Rattle.session_core.specs.Seats.{known_by}
use Rattle.session_core.proofs.Served.{served_at}
use Rattle.session_core.proofs.open_document.OpenDocument.change.Goals as goal

pub returns-in-Ok : goal.returns-in-Ok
returns-in-Ok g c =
    served_at g.A.DocAccess c.args.access.now c.act.new.access c.args.self.now c.act.new.self c.act.result (λ place. act (command.Change place c.args.mutation))
    (ok_or (place_at (opened_of (known_by g.A.DocAccess.seat_view) c.args.self.now) c.args.expr) NoSuchVariable) c.in-Ok.place c.in-Ok.ensures c.act.ensures
