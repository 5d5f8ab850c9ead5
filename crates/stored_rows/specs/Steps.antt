-- What a connection shows of the tables of a stored log.
use Rattle.std.specs.Prelude.{◌≡◌, ◌⊎◌, false, true, IsTrue}
use Rattle.sqlite.specs.State.{State}
use Rattle.stored_rows.specs.Tables.{no_schema, copy_schema}
use Rattle.stored_rows.specs.Content.{Content, Holds}

-- The connection is open with no transaction, and its tables, which are
-- all that there are, hold this.
pub record IsOpenWith (what : Content) (s : State) : Type 0 where
  pub is_open : IsTrue s.is_open
  pub autocommit : s.in_transaction ≡ false
  pub schema : s.now.schema ≡ copy_schema
  pub committed : s.committed ≡ s.now
  pub holds : Holds what s.now.trees

-- A transaction is under way, and shows this.
pub record Writing (what : Content) (s : State) : Type 0 where
  pub is_open : IsTrue s.is_open
  pub inside : s.in_transaction ≡ true
  pub schema : s.now.schema ≡ copy_schema
  pub holds : Holds what s.now.trees

-- No transaction is under way, and the database has no table.
pub record IsBare (s : State) : Type 0 where
  pub autocommit : s.in_transaction ≡ false
  pub schema : s.now.schema ≡ no_schema

-- No transaction is under way.
pub record IsIdle (s : State) : Type 0 where
  pub autocommit : s.in_transaction ≡ false
  pub settled : IsTrue s.is_open → s.now ≡ s.committed

-- No transaction is left under way where there was none.
abbrev pub StaysOutside : State → State → Type 0
StaysOutside old new = old.in_transaction ≡ false → new.in_transaction ≡ false

-- The database has the two tables of a stored log, or none; and no further one.
abbrev pub IsOurs : State → Type 0
IsOurs s = (s.now.schema ≡ no_schema) ⊎ (s.now.schema ≡ copy_schema)
