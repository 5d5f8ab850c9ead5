use Rattle.std.proofs.Common.{ap, ◌∙◌}
use Rattle.doc_rules.specs.Document.{opens}
use Rattle.doc_rules.specs.Seats.{Seat}
use Rattle.session_core.specs.Seats.{new_seat_number}
use Rattle.run_core.proofs.Seating.{told_is, opened_at}
use Rattle.run_core.proofs.documents.SeatedDocument.open_seat.Goals as goal

pub returns-clause-opens : goal.returns-clause-opens
returns-clause-opens g c =
    let d = c.args.self.now.locked in
    ap (new_seat_number (λ (s : Seat). s)) c.open_seat.ensures.seat ∙ told_is d.number (opens d.document).0

pub returns-clause-seat : goal.returns-clause-seat
returns-clause-seat g c =
    let d = c.args.self.now.locked in
    opened_at d.number c.open_seat.new.self.number d.document c.open_seat.new.self.document c.open_seat.result
    c.keeps_sound.ensures.sound c.open_seat.ensures.seat c.open_seat.ensures.document.0 c.open_seat.ensures.document.1
