use Rattle.session_core.specs.Seats.{known_by}
use Rattle.session_core.proofs.Lists.{found_at}
use Rattle.session_core.proofs.session.Session.index_of.Goals as goal

pub returns : goal.returns
returns g c = found_at (known_by g.A.DocAccess.seat_view) c.args.self.now.opened.items c.args.number c.position_of.result c.position_of.ensures
