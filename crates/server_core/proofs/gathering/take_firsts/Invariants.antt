use Rattle.std.proofs.Common.{◌≡◌, ◌≤◌, ◌+◌, vec_len, vec_capacity, map}
use Rattle.std.specs.VecDeque.{deque_capacity, deque_len}
use Rattle.server_core.proofs.Columns.{IsThrough}
use Rattle.server_core.proofs.gathering.take_firsts.Given as goal

abbrev pub invariant-loop : goal.invariant-loop
invariant-loop g l =
    record {
      through : IsThrough (map (λ s. s.items) l.fn.sessions.items) (map (λ s. s.items) l.sessions.items) l.counter l.fn.ends.items l.ends.items;
      as_many : deque_len l.sessions ≡ deque_len l.fn.sessions;
      within : deque_len l.sessions ≤ deque_capacity l.sessions;
      room : vec_len l.ends + deque_len l.fn.sessions ≤ vec_capacity l.ends + l.counter;
      fewer : vec_len l.ends ≤ vec_len l.fn.ends + l.counter;
      same : vec_capacity l.ends ≡ vec_capacity l.fn.ends;
    }
