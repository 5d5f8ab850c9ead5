use Rattle.std.proofs.Common.{rules, ◌<◌, sym, subst, ◌∙◌}
use Rattle.session_core.proofs.Lists.{got_or}
use Rattle.session_core.proofs.Seats.{asked_is}
use Rattle.session_core.proofs.Owners.{get-map, get-at, seat_within}
use Rattle.session_core.proofs.alone.AloneDocAccess.read.Goals as goal

pub index-requires : goal.index-requires
index-requires g c =
    subst (λ n. c.args.number < n) (sym c.args.self.now.documents.ok.0)
    (seat_within g.D.Document.has_seat c.args.self.now.documents.items c.args.number c.args.seat.now c.requires.seat)

pub read-requires : goal.read-requires
read-requires g c =
    let (document, at, has) = c.requires.seat in
    rw (c.index.ensures ∙ got_or c.args.self.now.documents.items c.args.number document _ at) (search (rules, has))

pub returns-clause-reads : goal.returns-clause-reads
returns-clause-reads g c =
    let documents = c.args.self.now.documents.items in
    let document = g.D.Document.document in
    let within = seat_within g.D.Document.has_seat documents c.args.number c.args.seat.now c.requires.seat in (
      document c.index.result.now,
      get-map document documents c.args.number c.index.result.now (get-at documents c.args.number c.index.result.now _ c.index.ensures within),
      c.read.ensures.reads.reads,
      asked_is _ _ _ _ _ c.read.ensures.reads,
    )

pub returns-clause-seat : goal.returns-clause-seat
returns-clause-seat g c =
    let documents = c.args.self.now.documents.items in
    let within = seat_within g.D.Document.has_seat documents c.args.number c.args.seat.now c.requires.seat in
    (c.index.result.now, get-at documents c.args.number c.index.result.now _ c.index.ensures within, c.read.ensures.seat)

pub returns-clause-others : goal.returns-clause-others
returns-clause-others g c other seat apart here = here
