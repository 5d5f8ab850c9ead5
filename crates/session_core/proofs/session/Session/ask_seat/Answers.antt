use Rattle.std.proofs.Common.{rules, arith, ◌∙◌}
use Rattle.std.proofs.lemmas.Option.{slice_get_within}
use Rattle.session_core.specs.Seats.{known_by}
use Rattle.session_core.specs.Serving.{rules_of}
use Rattle.session_core.proofs.Lists.{got_or}
use Rattle.session_core.proofs.Sessions.{asks_from, seated_from}
use Rattle.session_core.proofs.session.Session.ask_seat.Goals as goal

pub index_mut-requires : goal.index_mut-requires
index_mut-requires g c =
    let kept = c.in-Some.ensures in
    omega (arith, slice_get_within c.args.self.now.opened.items c.in-Some.index kept.here kept.at, c.args.self.now.opened.ok.0)

pub perform-requires : goal.perform-requires
perform-requires g c =
    let kept = c.in-Some.ensures in
    let has = c.requires.seats.seated c.in-Some.index kept.here kept.at in
    rw (c.index_mut.ensures.value ∙ got_or c.args.self.now.opened.items c.in-Some.index kept.here _ kept.at) (search (rules, has))

pub returns-in-Some : goal.returns-in-Some
returns-in-Some g c =
    let old = c.args.access.now in
    let new = c.perform.new.access in
    let documents = g.A.DocAccess.documents in
    let os = c.args.self.now.opened.items in
    let known = known_by g.A.DocAccess.seat_view in
    record {
      does =
          asks_from (rules_of g.A.DocAccess old) known g.A.DocAccess.has_seat old new (documents old) (documents new)
          os c.args.number c.in-Some.index c.in-Some.ensures c.perform.new.self c.args.ask c.perform.result _ _ c.index_mut.ensures.value
          c.requires.seats c.perform.ensures.stays c.perform.ensures.does;
      seats =
          seated_from (rules_of g.A.DocAccess old) known g.A.DocAccess.has_seat old new (documents old) (documents new)
          os c.args.number c.in-Some.index c.in-Some.ensures c.perform.new.self _ _ c.index_mut.ensures.value
          c.requires.seats c.perform.ensures.stays;
      noted = c.perform.ensures.noted;
      names = c.perform.ensures.names;
    }
