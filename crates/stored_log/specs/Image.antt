-- What a store in memory has.
use Rattle.std.specs.Prelude.{◌≡◌, ◌≤◌, ℕ, List, []}
use Rattle.stored_log.specs.Docs.{Doc, AreInOrder, AreGood}
use Rattle.stored_log.specs.Limits.{last_epoch}

-- an epoch, and the documents that are stored under it
pub record Stored : Type 0 where
  pub epoch : ℕ
  pub docs : List Doc

-- nothing is stored
pub record IsEmpty (it : Stored) : Type 0 where
  pub no_epoch : it.epoch ≡ 0
  pub no_docs : it.docs ≡ []

-- The epoch may have been given out; the documents are good, in the order of their names.
pub record IsSoundImage (it : Stored) : Type 0 where
  pub given_out : it.epoch ≤ last_epoch
  pub in_order : AreInOrder it.docs
  pub good : AreGood it.docs
