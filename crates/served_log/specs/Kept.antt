-- What a crash leaves of a stored log.
use Rattle.stored_log.specs.Log.{HasSame}
use Rattle.stored_log.specs.declared.port.StoredLog.{Ghosts}

module _ {L Left : Type 0} (g : Ghosts L Left) where
  -- Whatever a crash leaves of the log now is all that it has.
  abbrev pub IsKept : L → Type 0
  IsKept it = g.survives it (HasSame (g.log it))

  -- a crash leaves all that the new one has, where it left all that the old one had
  abbrev pub StaysKept : L → L → Type 0
  StaysKept old new = IsKept old → IsKept new
