use Rattle.std.proofs.Common.{◌≤◌, ◌+◌, length, vec_len, vec_capacity}
use Rattle.op_core.specs.Limits.{most_held}
use Rattle.replica_c.proofs.Running.{HasDeleted}
use Rattle.replica_c.proofs.run.delete_all.Given as goal

abbrev pub invariant-loop : goal.invariant-loop
invariant-loop l = record {
  deleted : HasDeleted l.initial.replica l.place l.count l.counter l.made.ids.items l.made.count l.made.dropped l.replica;
  room : l.count + vec_len l.made.ids ≤ vec_capacity l.made.ids + l.counter;
  few : l.made.count + l.made.dropped + length l.replica.held ≤ most_held + l.counter;
}
