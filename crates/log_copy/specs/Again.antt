-- What a stored log had whose files are to be opened again.
use Rattle.std.specs.Prelude.{ℕ, Bool, List, [], true}
use Rattle.stored_log.specs.Docs.{Doc}
use Rattle.stored_log.specs.Log.{LogState}

-- what it has in memory
pub record Remembered : Type 0 where
  pub epoch : ℕ
  pub docs : List Doc
  pub is_alone : Bool

-- it shows that, and has failed
abbrev pub parts_log : Remembered → LogState
parts_log p = record { epoch = p.epoch; docs = p.docs; is_alone = p.is_alone; has_failed = true }

-- of no log nothing is known: this has failed
abbrev pub no_log : LogState
no_log = record { epoch = 0; docs = []; is_alone = true; has_failed = true }
