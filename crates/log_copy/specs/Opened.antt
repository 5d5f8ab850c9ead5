-- What the database was asked and answered where it was taken over, whatever other tables it has.
use Rattle.std.specs.Prelude.{◌≡◌, ◌≢◌, ◌⊎◌, ◌≤◌, ℕ, false, List, []}
use Rattle.sqlite_trees.specs.declared.store.Store.{Ghosts}
use Rattle.sqlite.specs.Order.{Row}
use Rattle.sqlite.specs.Tree.{Trees}
use Rattle.sqlite.specs.Held.{Held, state}
use Rattle.sqlite.specs.State.{IsUnchanged}
use Rattle.stored_rows.specs.Tables.{HasNeither, HasBoth}
use Rattle.stored_rows.specs.Statements.{CommitsFor, CommitsOneOf, Ran, RanAll, ShowsFor}
use Rattle.stored_rows.specs.Statements.{making_of_tables, select_meta}
use Rattle.stored_rows.specs.Statements.{update_format}
use Rattle.stored_log.specs.Docs.{Doc}
use Rattle.stored_rows.specs.Parsed.{IsMeta}
use Rattle.stored_rows.specs.Shown.{AreAnswered, ShowsNoLogs}
use Rattle.stored_log.specs.Limits.{last_epoch}

-- they name no known format, or no epoch that may have been given out
abbrev pub IsNoMeta : List Row → Type 0
IsNoMeta rows = (format epoch : ℕ) → epoch ≤ last_epoch → (format ≡ 2) ⊎ (format ≡ 1)
    → ¬ IsMeta format epoch rows

module _ {S : Type 0} (g : Ghosts S) where
  -- The format, the epoch and the documents are those of the rows that it showed of both tables.
  pub record AreRead (old new : Held S) (format epoch : ℕ) (docs : List Doc) : Type 0 where
    pub between : Held S
    pub rows : List Row
    pub shown : ShowsFor g select_meta old between rows
    pub named : IsMeta format epoch rows
    pub entries : AreAnswered g between new docs
    pub unchanged : IsUnchanged (state g old) (state g new)

  -- It showed rows of one table that no stored log has.
  pub record ShowsNoCopy (old : Held S) : Type 0 where
    pub between : Held S
    pub rows : List Row
    pub shown : ShowsFor g select_meta old between rows
    pub none : IsNoMeta rows
        ⊎ ((format epoch : ℕ) × IsMeta format epoch rows × ShowsNoLogs g format between)

  -- an older format is migrated, and else nothing was run
  abbrev pub RaisesFrom : ℕ → Held S → Held S → Type 0
  RaisesFrom format old new = ((format ≡ 2) × (new ≡ old))
      ⊎ ((format ≢ 2) × Ran g (update_format 2) old new)

  -- They were read, and the format migrated.
  pub record AreReadAndRaised (old new : Held S) (epoch : ℕ) (docs : List Doc) : Type 0 where
    pub format : ℕ
    pub between : Held S
    pub read : AreRead old between format epoch docs
    pub raised : RaisesFrom format between new

  -- The tables were made, and no more was run.
  pub record AreMade (old new : Held S) (epoch : ℕ) (docs : List Doc) : Type 0 where
    pub no_epoch : epoch ≡ 0
    pub no_docs : docs ≡ []
    pub ran : RanAll g making_of_tables old new

  -- a database without the two tables gets them, and of one with both they are read
  abbrev pub IsTakenOver : Held S → Held S → ℕ → List Doc → Type 0
  IsTakenOver old new epoch docs =
      (HasNeither (state g old).now.schema × AreMade old new epoch docs)
      ⊎ (HasBoth (state g old).now.schema × AreReadAndRaised old new epoch docs)

  -- A crash meanwhile may leave what one of these commits: where there were none, the
  -- statements that make the tables, and where there were both, the one that migrates
  -- the format once they were read.
  abbrev pub MayLeave : Held S → Trees → Type 0
  MayLeave old db =
      (HasNeither (state g old).now.schema × CommitsOneOf g making_of_tables old db)
      ⊎ (HasBoth (state g old).now.schema × (between : Held S) × IsUnchanged (state g old) (state g between)
      × CommitsFor g (update_format 2) between db)

  -- a transaction is under way, it has other tables of these names, or its tables hold no stored
  -- log
  abbrev pub IsNoCopy : Held S → Type 0
  IsNoCopy old =
      ((state g old).in_transaction ≢ false)
      ⊎ ((¬ (HasNeither (state g old).now.schema ⊎ HasBoth (state g old).now.schema))
      ⊎ (HasBoth (state g old).now.schema × ShowsNoCopy old))
