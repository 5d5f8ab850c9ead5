use Rattle.std.proofs.Common.{ℕ, ◌≢◌, Contains}
use Rattle.hold_buffer.specs.Waiters.{row_at}
use Rattle.hold_buffer.proofs.waiters.forget_each.Given as goal

abbrev pub invariant-loop-id : goal.invariant-loop-id
invariant-loop-id l = (n k : ℕ) → k ≢ l.key → Contains (row_at l.fn.rows.items n) k → Contains (row_at l.rows.items n) k
