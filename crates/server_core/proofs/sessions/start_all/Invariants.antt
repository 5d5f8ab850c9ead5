use Rattle.std.proofs.Common.{◌≡◌, ◌≤◌, ◌+◌, vec_len, vec_capacity, length, IfSome}
use Rattle.std.specs.Vec.Iter.{into_iter_items, into_iter_len}
use Rattle.server_core.proofs.Attending.{IsBegun}
use Rattle.server_core.proofs.sessions.start_all.Given as goal

abbrev pub invariant-loop-connection : goal.invariant-loop-connection
invariant-loop-connection g l =
    record {
      begun : IsBegun (λ c r. IfSome r (λ thread. (thread.promise.names.value ≡ l.server.shared.now.names) × (thread.promise.connection.value ≡ c)))
          (into_iter_items l.initial.connection-iterator) (into_iter_items l.connection-iterator) l.running.items;
      left : into_iter_len l.connection-iterator ≡ length (into_iter_items l.connection-iterator);
      each : vec_len l.running + into_iter_len l.connection-iterator ≡ into_iter_len l.initial.connection-iterator;
      room : vec_len l.running + into_iter_len l.connection-iterator ≤ vec_capacity l.running;
    }
