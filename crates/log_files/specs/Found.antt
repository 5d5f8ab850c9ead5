-- What a start finds in a file.
use Rattle.std.specs.Prelude.{◌≡◌, ℕ, true, List}
use Rattle.sqlite.specs.Store.{Ghosts}
use Rattle.sqlite.specs.Held.{Held, IsNew, state}
use Rattle.sqlite.specs.State.{HasCleanDisk, Survives}
use Rattle.stored_rows.specs.Content.{Content, with_format}
use Rattle.stored_rows.specs.Steps.{IsOpenWith, IsOurs}
use Rattle.stored_log.specs.Docs.{Doc}
use Rattle.log_copy.specs.Kept.{Kept}
use Rattle.log_copy.specs.Opened.{IsTakenOver, MayLeave}

module _ {S : Type 0} (g : Ghosts S) where
  -- The log is over this connection, and nothing was run but what takes the tables over. The epoch
  -- and the documents are those that the tables had then; where there were none they were made.
  pub record IsFoundIn (opened : Held S) (c : Kept S) (epoch : ℕ) (docs : List Doc) : Type 0 where
    pub alone : IsOurs (state g opened) → c.is_alone ≡ true
    pub kept : HasCleanDisk (state g c.conn) → (was : Content) → IsOpenWith was (state g opened)
        → IsOpenWith (with_format 2 was) (state g c.conn)
    pub taken : HasCleanDisk (state g c.conn) → IsTakenOver g opened c.conn epoch docs
    pub commits : Survives (state g opened) (state g c.conn) (MayLeave g opened)

  -- So it is of a connection that was just opened, over which no row was changed before.
  pub record IsFound (c : Kept S) (epoch : ℕ) (docs : List Doc) : Type 0 where
    pub opened : Held S
    pub fresh : IsNew opened
    pub found : IsFoundIn opened c epoch docs
