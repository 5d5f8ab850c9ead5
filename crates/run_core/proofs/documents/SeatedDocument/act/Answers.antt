use Rattle.run_core.proofs.Seating.{acted_here}
use Rattle.run_core.proofs.documents.SeatedDocument.act.Goals as goal

pub returns-clause-seat : goal.returns-clause-seat
returns-clause-seat g c =
    let d = c.args.self.now.locked in
    acted_here d.number c.act.new.self.number d.document c.act.new.self.document c.args.seat.now c.act.new.seat c.args.command c.act.result
    c.keeps_sound.ensures.sound c.act.ensures.number c.requires.seat (c.act.ensures.own c.requires.seat.seat)
