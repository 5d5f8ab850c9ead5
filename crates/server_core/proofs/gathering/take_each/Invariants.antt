use Rattle.std.proofs.Common.{◌≡◌, ◌≤◌, ◌+◌, vec_len, vec_capacity, length, map, sum_by}
use Rattle.std.specs.Vec.Iter.{into_iter_items, into_iter_len}
use Rattle.server_core.proofs.Columns.{IsTaken}
use Rattle.server_core.proofs.gathering.take_each.Given as goal

abbrev pub invariant-loop-thread : goal.invariant-loop-thread
invariant-loop-thread g l =
    record {
      taken : IsTaken (map (λ t. map (λ s. s.items) t.items) (into_iter_items l.initial.thread-iterator))
          (map (λ t. map (λ s. s.items) t.items) (into_iter_items l.thread-iterator)) (map (λ t. map (λ s. s.items) t.items) l.kept.items) l.ends.items;
      left : into_iter_len l.thread-iterator ≡ length (into_iter_items l.thread-iterator);
      kept : vec_len l.kept + into_iter_len l.thread-iterator ≤ vec_capacity l.kept;
      room : vec_len l.ends + sum_by (λ t. length t.items) (into_iter_items l.thread-iterator) ≤ vec_capacity l.ends;
    }
