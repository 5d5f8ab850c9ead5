-- What a server is named at a start, and what is new to the stored log that it starts from.
use Rattle.std.specs.Prelude.{◌≡◌, ◌<◌, ◌≤◌, ℕ, Bool, false, List, ◌++◌, codes}
use Rattle.std.specs.Fmt.{decimal}
use Rattle.std.specs.List.{list_any}
use Rattle.stored_log.specs.Docs.{Doc, is_by, log_of}
use Rattle.stored_log.specs.Limits.{last_epoch}
use Rattle.stored_log.specs.Log.{LogState}

-- NAME-E, the name of the replica that a server is at the start of this number
abbrev pub replica_name : List ℕ → ℕ → List ℕ
replica_name name epoch = name ++ (codes "-" ++ decimal epoch)

-- the replica has made operations in one of the documents of these names
abbrev pub is_known : List ℕ → List Doc → List (List ℕ) → Bool
is_known replica docs names = list_any (λ n. list_any (is_by replica) (log_of n docs)) names

-- The log has the same documents under a greater epoch, of those that are given out, and the replica
-- is named by that: a name that is new to the documents of these names.
pub record IsRaised (name : List ℕ) (names : List (List ℕ)) (replica : List ℕ) (old new : LogState) : Type 0 where
  pub named : replica ≡ replica_name name new.epoch
  pub raised : old.epoch < new.epoch
  pub given_out : new.epoch ≤ last_epoch
  pub unknown : is_known replica old.docs names ≡ false
  pub kept : new.docs ≡ old.docs
