use Rattle.std.proofs.Common.{inl, refl, arith}
use Rattle.std.proofs.lemmas.Option.{slice_get_within}
use Rattle.session_core.specs.Seats.{known_by}
use Rattle.session_core.specs.Serving.{rules_of, state_of}
use Rattle.session_core.proofs.Opening.{opens_again, opens_anew}
use Rattle.session_core.proofs.session.Session.open.Goals as goal

pub index-requires : goal.index-requires
index-requires g c =
    let kept = c.in-Some.ensures in
    omega (arith, slice_get_within c.args.self.now.opened.items c.in-Some.index kept.here kept.at, c.args.self.now.opened.ok.0)

pub returns-in-Some : goal.returns-in-Some
returns-in-Some g c = record {
  does =
      inl (opens_again (rules_of g.A.DocAccess c.args.access.now) (known_by g.A.DocAccess.seat_view) c.args.self.now.opened.items c.args.number
      (g.A.DocAccess.documents c.args.access.now) c.in-Some.index c.index.result.now c.seat_number.result c.in-Some.ensures c.index.ensures c.seat_number.ensures);
  seats = c.requires.seats;
  noted = λ number here. (here, refl);
  names = refl;
}

pub returns-in-None : goal.returns-in-None
returns-in-None g c = record {
  does =
      opens_anew (rules_of g.A.DocAccess c.args.access.now) (known_by g.A.DocAccess.seat_view) c.args.self.now.opened.items c.args.number
      (state_of g.A.DocAccess c.args.access.now c.args.self.now.opened.items)
      (state_of g.A.DocAccess c.open_new.new.access c.open_new.new.self.opened.items)
      c.open_new.result c.in-None.ensures c.open_new.ensures.opens;
  seats = c.open_new.ensures.seats;
  noted = c.open_new.ensures.noted;
  names = c.open_new.ensures.names;
}
