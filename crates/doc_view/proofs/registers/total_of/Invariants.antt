use Rattle.std.proofs.Common.{◌≡◌, ◌*◌, length, pos, ◌+ℤ◌, neg_ℤ, ◌≤ℤ◌}
use Rattle.doc_rules.specs.Views.{total}
use Rattle.doc_view.proofs.registers.total_of.Given as goal

abbrev pub invariant-loop-entry : goal.invariant-loop-entry
invariant-loop-entry l =
    (total l.fn.entries ≡ l.total +ℤ total l.entry-iterator)
    × (((neg_ℤ (pos (9223372036854775808 * length l.fn.entries))) +ℤ (pos (9223372036854775808 * length l.entry-iterator))) ≤ℤ l.total)
    × ((l.total +ℤ (pos (9223372036854775808 * length l.entry-iterator))) ≤ℤ pos (9223372036854775808 * length l.fn.entries))
