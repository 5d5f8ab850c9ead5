-- Batches of entries.
use Rattle.std.specs.Prelude.{◌≡◌, ◌≤◌, ℕ, true, List, length}
use Rattle.lamport_id.specs.Name.{is_name}
use Rattle.op_core.specs.Op.{Op}
use Rattle.stored_log.specs.Docs.{Doc, log_of}
use Rattle.stored_log.specs.Limits.{most_rows}

-- these may be tried as a batch, and may still not fit
abbrev pub MayAdd : List ℕ → ℕ → List Op → List Doc → Type 0
MayAdd name from ops docs = (is_name name ≡ true) × (from ≡ length (log_of name docs))
    × (length ops ≤ most_rows)
