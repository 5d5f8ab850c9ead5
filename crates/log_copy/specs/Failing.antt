-- What the database answered where a stored log gives an error of the database.
use Rattle.std.specs.Prelude.{◌≡◌, ◌⊎◌, ℕ, List, Err}
use Rattle.sqlite_trees.specs.declared.store.Store.{Ghosts}
use Rattle.sqlite.specs.Order.{Row}
use Rattle.sqlite.specs.Held.{Held, state}
use Rattle.sqlite.specs.State.{IsUnchanged}
use Rattle.sqlite.specs.declared.error.Error.{Error}
use Rattle.stored_rows.specs.Tables.{copy_schema, HasNeither, HasBoth}
use Rattle.stored_rows.specs.Statements.{Statement, FailsFor, RunsTo, ShowsFor, StopsBy}
use Rattle.stored_rows.specs.Statements.{making_of_tables, select_meta}
use Rattle.stored_rows.specs.Statements.{update_format}
use Rattle.stored_rows.specs.Parsed.{IsMeta}

module _ {S : Type 0} (g : Ghosts S) where
  -- it answered this one by an error
  abbrev pub FailsAt : Statement → Held S → Held S → Type 0
  FailsAt it old new = (error : Error) × RunsTo g it old new (Err error)

  -- it answered one of these by an error
  abbrev pub FailsAmong : List Statement → Held S → Held S → Type 0
  FailsAmong its old new = (error : Error) × StopsBy g its old new error

  -- it failed to make the tables; what was left may have been rolled back since
  abbrev pub FailsToMake : Held S → Type 0
  FailsToMake old = (left : Held S) × FailsAmong making_of_tables old left

  -- It answered `meta`, whose rows name a format and an epoch. No clause says by which error it
  -- then answered `entry`.
  pub record HasReadMeta (old : Held S) : Type 0 where
    pub read : Held S
    pub rows : List Row
    pub format : ℕ
    pub epoch : ℕ
    pub shown : ShowsFor g select_meta old read rows
    pub named : IsMeta format epoch rows

  -- it failed while the tables were read
  abbrev pub FailsToRead : Held S → Held S → Type 0
  FailsToRead old new = ((error : Error) × FailsFor g select_meta old new error) ⊎ HasReadMeta old

  -- it failed to migrate the format of tables that were read
  pub record FailsToRaise (old new : Held S) : Type 0 where
    pub read : Held S
    pub unchanged : (state g old).now.schema ≡ copy_schema
        → IsUnchanged (state g old) (state g read)
    pub failed : FailsAt (update_format 2) read new

  -- where it had neither table, it failed to make them; where it had both, to read them or to
  -- migrate their format
  abbrev pub FailsToOpen : Held S → Held S → Type 0
  FailsToOpen old new =
      (HasNeither (state g old).now.schema × FailsToMake old)
      ⊎ (HasBoth (state g old).now.schema × (FailsToRead old new ⊎ FailsToRaise old new))
