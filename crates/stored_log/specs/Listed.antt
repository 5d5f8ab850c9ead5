-- What a stored log in memory has.
use Rattle.std.specs.Prelude.{◌≡◌, ℕ, List, Bool, true}
use Rattle.std.proofs.Common.{subst, sym}
use Rattle.stored_log.specs.Docs.{Doc}
use Rattle.stored_log.specs.Image.{Stored}
use Rattle.stored_log.specs.Log.{LogState}
use Rattle.stored_log.specs.declared.list_log.ListStore.{ListStore}

pub record Listed : Type 0 where
  -- what a crash leaves
  pub kept : Stored
  -- what the file alone holds
  pub alone : Stored
  pub has_failed : Bool

abbrev pub listed_log : Listed → LogState
listed_log it = record { epoch = it.kept.epoch; docs = it.kept.docs; is_alone = true; has_failed = it.has_failed }

-- the file alone held what a crash left of the old one, and the new one has what that had
pub record WasListedAlone (old new : Listed) : Type 0 where
  pub same : listed_log new ≡ listed_log old
  pub in_file : new.alone ≡ old.kept

-- a crash leaves the same of both
pub kept_alike : (such : ℕ → List Doc → Type 0) (it other : Stored) → other ≡ it → such it.epoch it.docs → such other.epoch other.docs
kept_alike such it other same is = subst (λ (kept : Stored). such kept.epoch kept.docs) (sym same) is

-- a crash leaves this of the store, and the file alone holds it
pub record AreBoth (it : Stored) (store : ListStore) : Type 0 where
  pub as_kept : store.kept ≡ it
  pub as_alone : store.alone ≡ it
