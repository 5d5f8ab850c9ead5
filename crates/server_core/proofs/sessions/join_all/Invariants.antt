use Rattle.std.proofs.Common.{◌≡◌, ◌≤◌, ◌+◌, vec_len, vec_capacity, length, map, IfSome}
use Rattle.std.specs.Vec.Iter.{into_iter_items, into_iter_len}
use Rattle.server_core.specs.Attended.{all_of}
use Rattle.server_core.proofs.Attending.{IsJoined}
use Rattle.server_core.proofs.sessions.join_all.Given as goal

abbrev pub invariant-loop-one : goal.invariant-loop-one
invariant-loop-one g l =
    record {
      joined : IsJoined g.C.Connect.bytes g.C.Connect.follows (λ c r. IfSome r (λ thread. (thread.promise.names.value ≡ l.server.shared.now.names) × (thread.promise.connection.value ≡ c)))
          g.M.Marker.origin l.server.shared.now.names.items l.connections.value.items (into_iter_items l.one-iterator) (map (λ t. t.items) l.attended.endings.items)
          (all_of (map (λ t. map (λ s. s.items) t.items) l.attended.sessions.items));
      left : into_iter_len l.one-iterator ≡ length (into_iter_items l.one-iterator);
      endings : vec_len l.attended.endings + into_iter_len l.one-iterator ≤ vec_capacity l.attended.endings;
      sessions : vec_len l.attended.sessions + into_iter_len l.one-iterator ≤ vec_capacity l.attended.sessions;
    }
