-- The front that a log keeps.
use Rattle.std.specs.Prelude.{◌≡◌, ℕ, List, bytes_eq, Some, if◌then◌else◌}
use Rattle.lamport_id.specs.Order.{name_cmp}
use Rattle.list_laws.specs.Sorted.{KeysRise, get_by}
use Rattle.op_core.specs.Op.{Op}
use Rattle.crdt_rules.specs.Fits.{last_counter}

-- the new pairs have this value for the replica, and for each other what the old ones have
abbrev pub PutsEntry : {X : Type 0} → List (List ℕ × X) → List (List ℕ × X) → List ℕ → X → Type 0
PutsEntry old new name x = (n : List ℕ)
    → get_by bytes_eq new n ≡ (if bytes_eq name n then Some x else get_by bytes_eq old n)

-- each replica of the log with the greatest counter of its operations, in the order of the names
pub record IsFrontOf (log : List Op) (front : List (List ℕ × ℕ)) : Type 0 where
  pub rising : KeysRise name_cmp front
  pub last : (name : List ℕ) → get_by bytes_eq front name ≡ last_counter log name
