-- The rows of both tables as they were read.
use Rattle.std.specs.Prelude.{◌≡◌, ◌≢◌, ℕ, ℤ, List, [], ◌∷◌, ◌++◌, codes}
use Rattle.std.specs.List.Sorted.{IsPermutation}
use Rattle.sqlite.specs.Order.{Row}
use Rattle.sqlite.specs.State.{State, IsUnchanged}
use Rattle.stored_rows.specs.Content.{Content, Holds, meta_row}
use Rattle.stored_rows.specs.Steps.{IsIdle, IsOpenWith}
use Rattle.stored_log.specs.Docs.{Doc, AreInOrder, AreGood}
use Rattle.stored_rows.specs.Accepted.{AreWritable}
use Rattle.stored_rows.specs.Rows.{rows_of}

pub record IsMeta (format epoch : ℕ) (rows : List Row) : Type 0 where
  pub format_id : ℤ
  pub epoch_id : ℤ
  pub apart : format_id ≢ epoch_id
  pub is : rows
      ≡ meta_row format_id (codes "format") format ∷ meta_row epoch_id (codes "epoch") epoch ∷ []

-- The documents are good and in order, a file of this format may hold them, and they have these
-- rows and no others, in any order.
pub record HasRows (format : ℕ) (rows : List Row) (docs : List Doc) : Type 0 where
  pub in_order : AreInOrder docs
  pub good : AreGood docs
  pub writable : AreWritable 2 docs
  pub in_format : AreWritable format docs
  pub rows_are : IsPermutation rows (rows_of docs)

-- one row more
abbrev pub AddsRow : ℕ → Row → List Doc → List Doc → Type 0
AddsRow format row old new = (rows : List Row) → HasRows format rows old
    → HasRows format (rows ++ row ∷ []) new

-- The tables hold this, and reading them changed nothing.
pub record ReadsContent (what : Content) (old new : State) : Type 0 where
  pub unchanged : IsUnchanged old new
  pub holds : Holds what old.now.trees
  pub serves : IsIdle old → IsOpenWith what new
