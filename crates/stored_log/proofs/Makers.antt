-- Whether a replica has made operations of a log.
use Rattle.std.proofs.Common.{◌≡◌, ℕ, List, [], ◌∷◌, Bool, true, false, bytes_eq, max, Some, unwrap_or, is_some, ◌||◌, if◌then◌else◌, refl}
use Rattle.std.specs.List.{list_any}
use Rattle.op_core.specs.Op.{Op}
use Rattle.crdt_rules.specs.Fits.{last_counter}
use Rattle.stored_log.specs.Docs.{is_by}

-- It has where it has a last one.
pub made_some : (log : List Op) (name : List ℕ) → is_some (last_counter log name) ≡ list_any (is_by name) log
made_some [] name = refl
made_some (op ∷ log) name = go (bytes_eq op.id.replica name) (made_some log name)
  where
    go : (b : Bool) → is_some (last_counter log name) ≡ list_any (is_by name) log
        → is_some (if b then Some (max op.id.counter (unwrap_or (last_counter log name) 0)) else last_counter log name) ≡ (b || list_any (is_by name) log)
    go true later = refl
    go false later = later
