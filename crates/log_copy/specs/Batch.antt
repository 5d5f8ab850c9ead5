-- For private clauses: what an attempt to add a batch does to a connection and to the documents.
use Rattle.std.specs.Prelude.{◌≡◌, ◌≢◌, ◌⊎◌, ◌+◌, ℕ, Bool, true, false, List, [], ◌++◌, map, Result}
use Rattle.std.specs.Prelude.{Ok}
use Rattle.std.specs.Prelude.{Err}
use Rattle.std.specs.List.{AllByRecursion}
use Rattle.sqlite.specs.Store.{Ghosts}
use Rattle.sqlite.specs.Held.{Held, state}
use Rattle.sqlite.specs.State.{HasCleanDisk, Survives}
use Rattle.op_core.specs.Op.{Op}
use Rattle.crdt_rules.specs.Log.{IsGood}
use Rattle.stored_rows.specs.Content.{Content, Holds, with_rows, rows_from}
use Rattle.stored_rows.specs.Statements.{CommitsOneOf, RanAll, batch_of}
use Rattle.stored_rows.specs.Steps.{IsOpenWith}
use Rattle.stored_log.specs.Docs.{Doc, op_text, log_of, add_log, IsBatch}
use Rattle.stored_log.specs.declared.fault.Fault.{Fault}
use Rattle.stored_log.specs.declared.fault.Fault.TheVariants.{Refused, Store, Memory}
use Rattle.stored_log.specs.Batch.{MayAdd}
use Rattle.stored_rows.specs.Accepted.{IsWritable}
use Rattle.log_copy.specs.Failing.{FailsAmong}

abbrev pub is_store : {T : Type 0} → Result T Fault → Bool
is_store (Ok x) = false
is_store (Err Refused) = false
is_store (Err Store) = true
is_store (Err Memory) = false

module _ {S : Type 0} (g : Ghosts S) (name : List ℕ) (from : ℕ) (ops : List Op) (old new : Held S)
    (docs now : List Doc) where
  -- The documents hold the batch, whose rows were sent to the database.
  pub record Sends : Type 0 where
    pub may : MayAdd name from ops docs
    pub some : ops ≢ []
    pub good : IsGood (log_of name docs ++ ops)
    pub writable : AllByRecursion (IsWritable 2) ops
    pub added : now ≡ add_log name ops docs
    pub survives : Survives (state g old) (state g new)
        (λ db. (was : Content) → IsOpenWith was (state g old)
        → Holds (with_rows (rows_from name (from + 1) (map op_text ops)) was) db)
    pub commits : Survives (state g old) (state g new)
        (CommitsOneOf g (batch_of (rows_from name (from + 1) (map op_text ops))) old)

  -- The database answered them too.
  pub record Stores : Type 0 where
    pub sent : Sends
    pub shows : HasCleanDisk (state g new) → (was : Content) → IsOpenWith was (state g old)
        → IsOpenWith (with_rows (rows_from name (from + 1) (map op_text ops)) was) (state g new)
    pub ran : HasCleanDisk (state g new)
        → RanAll g (batch_of (rows_from name (from + 1) (map op_text ops))) old new

  -- The database answered one of them by an error.
  pub record FailsToStore : Type 0 where
    pub sent : Sends
    pub failed : HasCleanDisk (state g new) → FailsAmong g (batch_of
        (rows_from name (from + 1) (map op_text ops))) old new

  -- All is as it was.
  pub record IsLeft : Type 0 where
    pub same_conn : new ≡ old
    pub same_docs : now ≡ docs

  abbrev pub Tries : Result (Unit {0}) Fault → Type 0
  Tries (Ok x) = (IsLeft × MayAdd name from ops docs × (ops ≡ [])) ⊎ Stores
  Tries (Err Refused) = IsLeft × ¬ IsBatch name from ops docs
  Tries (Err Store) = FailsToStore
  Tries (Err Memory) = IsLeft
