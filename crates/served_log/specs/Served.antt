-- What stays in a stored log beside a server.
use Rattle.std.specs.Prelude.{◌≤◌, ℕ, Bool, List}
use Rattle.stored_log.specs.Log.{LogState}
use Rattle.served_log.specs.Batches.{AreAdded}
use Rattle.served_log.specs.Restored.{origin_at}

-- What the log had is there, perhaps with batches of these documents behind it, which began as it
-- had them, under some replica's name. Its epoch has not sunk.
pub record KeepsRows (names : List (List ℕ)) (old new : LogState) : Type 0 where
  pub replica : List ℕ
  pub any : Bool
  pub added : AreAdded (origin_at replica old.docs names) names old.docs any new.docs
  pub epoch : old.epoch ≤ new.epoch
