use Rattle.run_core.proofs.Seating.{read_here}
use Rattle.run_core.proofs.documents.SeatedDocument.read.Goals as goal

pub returns-clause-seat : goal.returns-clause-seat
returns-clause-seat g c =
    let d = c.args.self.now.locked in
    read_here d.number d.document c.args.seat.now c.read.new.seat c.args.query c.read.result c.requires.seat (c.read.ensures.own c.requires.seat.seat)
