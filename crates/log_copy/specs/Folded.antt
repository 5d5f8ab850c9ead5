-- What a database file holds without its log.
use Rattle.std.specs.Prelude.{◌≡◌, ◌⊎◌, IsTrue}
use Rattle.sqlite_disk.specs.declared.Disk.{Ghosts as Disk}
use Rattle.sqlite_wal.specs.Recovery.{Image}
use Rattle.sqlite_wal.specs.Files.{seen_image, outcomes}
use Rattle.sqlite_trees.specs.Tree.{Trees}
use Rattle.sqlite_trees.specs.View.{IsClean, IsQuiet}
use Rattle.sqlite_trees.specs.declared.store.Store.{Ghosts}
use Rattle.sqlite_store.specs.declared.store.FileStore.{FileStore}
use Rattle.sqlite_store.specs.FileStore.{files}
use Rattle.sqlite.specs.Closing.{HoldsAlone}
use Rattle.sqlite.specs.Held.{Held, state}
use Rattle.sqlite.specs.Steps.{IsFresh}
use Rattle.sqlite.specs.State.{HasCleanDisk, Opens}
use Rattle.stored_rows.specs.Content.{Content, Holds}

-- as the two files of the store read now, and after a crash
pub record IsInFileAlone {D : Type 0} {g : Disk D} (it : FileStore D g) (db : Trees) : Type 0 where
  pub seen : HoldsAlone (seen_image g (files it).0 (files it).1) db
  pub left : (image : Image) → outcomes g (files it).0 (files it).1 image → HoldsAlone image db

-- whatever a crash leaves of the store holds this
abbrev pub StoreHas : {S : Type 0} → Ghosts S → Content → S → Type 0
StoreHas g what last = IsClean (g.view last) → (db : Trees) → g.recovers last db → Holds what db

module _ {S : Type 0} (g : Ghosts S) where
  abbrev pub Quiets : S → S → Type 0
  Quiets = IsQuiet g.view g.faults g.recovers g.is_shielded

  -- A crash leaves of the store what it left of the connection, or what that last committed.
  pub record KeepsCommit (old : Held S) (last : S) : Type 0 where
    pub was_clean : IsClean (g.view last) → IsClean (g.view old.store)
    pub left : IsClean (g.view last) → (db : Trees) → g.recovers last db → g.recovers old.store db
        ⊎ (db ≡ (g.view old.store).committed)

module _ {S : Type 0} (g : Ghosts S) (holds_alone : S → Trees → Type 0) where
  -- The last commit of the connection is in the database file alone, and what was not committed is
  -- undone.
  pub record HasFolded (old : Held S) (last : S) : Type 0 where
    pub quiet : Quiets g old.store last
    pub fresh : IsClean (g.view last) → IsFresh (g.view last)
    pub is_open : IsClean (g.view last) → IsTrue (g.view last).is_open
    pub same : IsClean (g.view last) → (g.view last).committed ≡ (g.view old.store).committed
    pub alone : IsClean (g.view last) → holds_alone last (g.view last).committed

  -- The connection is over a store whose database file alone held what both show.
  pub record Reopens (old new : Held S) : Type 0 where
    pub last : S
    pub folded : HasFolded old last
    pub still_clean : HasCleanDisk (state g new) → IsClean (g.view last)
    pub opens : HasCleanDisk (state g new) → Opens (state g new)
    pub same : HasCleanDisk (state g new) → (state g new).now.trees ≡ (state g old).committed.trees

  -- In between, the store had what was last committed in its database file alone, which was this,
  -- and a crash then left it.
  pub record WasAlone (what : Content) (old : Held S) : Type 0 where
    pub last : S
    pub folded : HasFolded old last
    pub clean : IsClean (g.view last)
    pub holds : Holds what (g.view last).committed
    pub left : StoreHas g what last

  -- The store's database file alone holds this.
  abbrev pub FileHas : Content → S → Type 0
  FileHas what last = IsClean (g.view last) → (db : Trees) × holds_alone last db × Holds what db
