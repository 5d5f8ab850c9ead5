use Rattle.std.proofs.Common.{◌≡◌, ◌≤◌, ◌+◌, length, vec_len, vec_capacity}
use Rattle.std.specs.Vec.Iter.{into_iter_items, into_iter_len}
use Rattle.op_core.specs.Limits.{most_held}
use Rattle.replica_c.proofs.Running.{HasInserted}
use Rattle.replica_c.proofs.run.insert_all.Given as goal

abbrev pub invariant-loop-val : goal.invariant-loop-val
invariant-loop-val l = record {
  inserted : HasInserted l.initial.replica l.fn.place l.fn.vals.items (into_iter_items l.val-iterator) l.at l.made.ids.items l.made.count l.made.dropped l.replica;
  left : into_iter_len l.val-iterator ≡ length (into_iter_items l.val-iterator);
  room : vec_len l.made.ids + into_iter_len l.val-iterator ≤ vec_capacity l.made.ids;
  few : l.made.count + l.made.dropped + length l.replica.held + into_iter_len l.val-iterator ≤ most_held + length l.fn.vals.items;
}
