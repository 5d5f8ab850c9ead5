use Rattle.std.proofs.Common.{ℕ, ◌<◌, get_or, ◌≢◌}
use Rattle.doc_api.specs.Words.{Id}
use Rattle.hold_buffer.proofs.missing.scanned_index.Given as goal

abbrev pub invariant-loop-at : goal.invariant-loop-at
invariant-loop-at l = (k : ℕ) (d : Id) → k < l.at → get_or l.ids k d ≢ l.id
