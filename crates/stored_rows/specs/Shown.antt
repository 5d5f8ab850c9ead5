-- What the database answered where the tables are read, whatever other tables it has.
use Rattle.std.specs.Prelude.{◌≢◌, ℕ, List, ◌++◌}
use Rattle.std.specs.List.Sorted.{IsPermutation}
use Rattle.sqlite_trees.specs.declared.store.Store.{Ghosts}
use Rattle.sqlite.specs.Order.{Row}
use Rattle.sqlite.specs.Held.{Held}
use Rattle.stored_rows.specs.Statements.{BeginsFor, ShowsFor, select_entries}
use Rattle.stored_log.specs.Docs.{Doc, AreInOrder, AreGood}
use Rattle.stored_rows.specs.Accepted.{AreWritable}
use Rattle.stored_rows.specs.Rows.{rows_of}

-- No documents that a file of this format may hold have rows that begin so.
abbrev pub IsNoStart : ℕ → List Row → Type 0
IsNoStart format rows =
    (docs : List Doc) (rest : List Row) → AreInOrder docs → AreGood docs → AreWritable format docs
    → rows_of docs ≢ rows ++ rest

module _ {S : Type 0} (g : Ghosts S) where
  -- It showed the rows of these documents and no others.
  pub record AreAnswered (old new : Held S) (docs : List Doc) : Type 0 where
    pub rows : List Row
    pub shown : ShowsFor g select_entries old new rows
    pub rows_are : IsPermutation rows (rows_of docs)

  -- It began to show rows that no good documents begin with.
  pub record ShowsNoLogs (format : ℕ) (old : Held S) : Type 0 where
    pub rows : List Row
    pub begun : BeginsFor g select_entries old rows
    pub are_none : IsNoStart format rows
