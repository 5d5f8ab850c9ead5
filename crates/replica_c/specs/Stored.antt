-- The logs that stored lines write.
use Rattle.std.specs.Prelude.{◌≡◌, ◌⊎◌, ℕ, List, [], ◌∷◌, ◌++◌, length, map, true, false, Ok, Err}
use Rattle.lamport_id.specs.Name.{is_name}
use Rattle.op_core.specs.Op.{Op}
use Rattle.doc_api.specs.Words.{Refusal}
use Rattle.crdt_rules.specs.Log.{IsGood}
use Rattle.doc_rules.specs.Cause.{IsFirstMisfit}
use Rattle.doc_rules.specs.Replica.{Replica}
use Rattle.line_feed.specs.Lines.{lines}
use Rattle.replica_core.specs.declared.restore.Misfit.{Misfit}
use Rattle.replica_core.specs.declared.restore.Misfit.TheVariants as misfit
use Rattle.replica_c.specs.Asking.{op_of_line}
use Rattle.replica_c.specs.declared.open.Unopened.{Unopened}
use Rattle.replica_c.specs.declared.open.Unopened.TheVariants.{Name, Unfit}

-- the lines write these operations, one each, in their order
abbrev pub AreWritten : List (List ℕ) → List Op → Type 0
AreWritten lines ops = map op_of_line lines ≡ map (λ op. Ok op) ops

-- before a line that writes no operation these are written
pub record IsUnread (all : List (List ℕ)) (ops : List Op) (cause : Refusal) : Type 0 where
  pub read : List (List ℕ)
  pub line : List ℕ
  pub later : List (List ℕ)
  pub is : all ≡ read ++ line ∷ later
  pub written : AreWritten read ops
  pub cause_is : op_of_line line ≡ Err cause

-- The first line that doesn't fit, by its place: it writes an operation that doesn't fit those
-- before it, or, where those fit, none.
abbrev pub IsUnfitAt : List (List ℕ) → ℕ → Refusal → Type 0
IsUnfitAt all place cause =
    ((ops : List Op) × (read later : List (List ℕ)) × (all ≡ read ++ later) × AreWritten read ops
    × IsFirstMisfit ops place cause)
    ⊎ ((ops : List Op) × IsUnread all ops cause × IsGood ops × (length ops ≡ place))

abbrev pub IsUnfit : List (List ℕ) → Misfit → Type 0
IsUnfit all (misfit.At place cause) = IsUnfitAt all place cause
IsUnfit all misfit.NoMemory = Unit {0}

-- the replica of this name whose log the text's lines write, which is good, and which holds nothing
abbrev pub OpensAs : List ℕ → List ℕ → Replica → Type 0
OpensAs name text r =
    (ops : List Op) × AreWritten (lines text) ops × IsGood ops
    × (r ≡ record { name = name; log = ops; held = [] })

-- why nothing is opened
abbrev pub IsUnopened : List ℕ → List ℕ → Unopened → Type 0
IsUnopened name text Name = is_name name ≡ false
IsUnopened name text (Unfit why) = IsUnfit (lines text) why
