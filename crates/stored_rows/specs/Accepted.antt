-- What the tables of a sound copy hold, whatever program wrote them.
use Rattle.std.specs.Prelude.{◌≡◌, ◌⊎◌, ◌+◌, ◌≤◌, ℕ, List, [], ◌∷◌, ◌++◌, length, true, false}
use Rattle.std.specs.Prelude.{IsUtf8}
use Rattle.std.specs.List.{AllByRecursion}
use Rattle.sqlite.specs.Order.{Row}
use Rattle.lamport_id.specs.Name.{is_name}
use Rattle.op_core.specs.Op.{Op}
use Rattle.crdt_rules.specs.Effect.{is_add}
use Rattle.crdt_rules.specs.Log.{IsGood}
use Rattle.stored_rows.specs.Content.{Content, entry_row}
use Rattle.stored_log.specs.Docs.{Doc, AreInOrder, AreGood, op_text, log_of}
use Rattle.stored_rows.specs.Rows.{rows_of}
use Rattle.stored_log.specs.Limits.{last_epoch}

-- its text is UTF-8, and in format 1, which older programs wrote, no operation adds to a counter
abbrev pub IsWritable : ℕ → Op → Type 0
IsWritable format op = IsUtf8 (op_text op) × (format ≡ 1 → is_add op.mutation ≡ false)

abbrev pub AreWritable : ℕ → List Doc → Type 0
AreWritable format docs = AllByRecursion (λ d. AllByRecursion (IsWritable format) d.log) docs

-- A format that is known, an epoch that may have been given out, and the rows of good documents.
pub record IsSoundContent (what : Content) : Type 0 where
  pub known : (what.format ≡ 2) ⊎ (what.format ≡ 1)
  pub given_out : what.epoch ≤ last_epoch
  pub docs : List Doc
  pub in_order : AreInOrder docs
  pub good : AreGood docs
  pub writable : AreWritable what.format docs
  pub rows_are : what.rows ≡ rows_of docs

-- ---- for private clauses: rows that come one after another

-- The row is the next of its document, of this name and with this operation.
pub record IsNext (format : ℕ) (old : List Doc) (row : Row) (name : List ℕ) (op : Op) : Type 0 where
  pub is_row : row ≡ entry_row name (length (log_of name old) + 1) (op_text op)
  pub named : is_name name ≡ true
  pub good : IsGood (log_of name old ++ op ∷ [])
  pub writable : IsWritable format op
