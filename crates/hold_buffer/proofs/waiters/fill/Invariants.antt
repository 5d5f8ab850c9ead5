use Rattle.std.proofs.Common.{ℕ, ◌≡◌, length}
use Rattle.hold_buffer.specs.Waiters.{row_at}
use Rattle.hold_buffer.proofs.waiters.fill.Given as goal

abbrev pub invariant-loop-at : goal.invariant-loop-at
invariant-loop-at l = (length l.rows.items ≡ l.at) × ((n : ℕ) → row_at l.rows.items n ≡ row_at l.fn.rows.items n)
