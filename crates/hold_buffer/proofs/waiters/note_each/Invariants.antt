use Rattle.std.proofs.Common.{ℕ, ◌≤◌, length, take, Contains}
use Rattle.doc_api.specs.Words.{Id}
use Rattle.hold_buffer.specs.Waiters.{row_at, row_of}
use Rattle.hold_buffer.proofs.waiters.note_each.Given as goal

abbrev pub invariant-loop-id : goal.invariant-loop-id
invariant-loop-id l =
    (4096 ≤ length l.rows.items)
    × ((n k : ℕ) → Contains (row_at l.fn.rows.items n) k → Contains (row_at l.rows.items n) k)
    × ((i : Id) → Contains (take l.id-index l.ids) i → Contains (row_at l.rows.items (row_of i)) l.key)
