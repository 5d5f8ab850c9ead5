use Rattle.std.proofs.Common.{map}
use Rattle.server_core.proofs.Attending.{IsAt}
use Rattle.server_core.proofs.sessions.attend_line.Given as goal

abbrev pub invariant-loop : goal.invariant-loop
invariant-loop g l = record {
  waits : (goal.iterator-loop g).can_next l.iterator' × (goal.iterator-loop g).is_finite l.iterator';
  at : IsAt g.M.Marker.origin l.server.shared.now.names.items g.C.Connect.bytes g.C.Connect.follows l.fn.first l.connection l.line.endings.items
      (map (λ s. s.items) l.line.sessions.items);
}
