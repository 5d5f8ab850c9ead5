-- What a buffer shows of itself.
use Rattle.std.specs.Prelude.{List, length, Bool, true, false, nat_lt, Result, Ok, Err, ⊤, Contains}
use Rattle.std.specs.Prelude.{◌↔◌}
use Rattle.doc_api.specs.Words.{Id, Refusal, Op}
use Rattle.json_scalar.specs.declared.refusal.Refusal.TheVariants.{IdConflict, HeldFull}
use Rattle.op_core.specs.Limits.{most_held}
use Rattle.crdt_rules.specs.Dependencies.{is_logged, missing}

-- a held operation waits until an id is logged
pub record Wait : Type 0 where
  pub awaited : Id
  pub waiter : Id

pub record Buffer : Type 0 where
  -- the held operations, by rising id
  pub held : List Op
  -- which of them waits for which id
  pub waits : List Wait

-- What the buffer keeps of the log is right: a held operation waits for the ids of its front that
-- are not logged, and for no others.
unfoldable pub IsCurrent : Buffer → List Op → Type 0
IsCurrent buffer log =
    (op : Op) → Contains buffer.held op → (i : Id)
    → Contains buffer.waits (record { awaited = i; waiter = op.id }) ↔ Contains (missing op log) i

-- the first cause against holding an operation: another one is held
-- under its id, or there is no room
abbrev pub first_hold_cause : Bool → Bool → Result ⊤ Refusal
first_hold_cause true room = Err IdConflict
first_hold_cause false false = Err HeldFull
first_hold_cause false true = Ok tt

abbrev pub hold_cause : Id → List Op → Result ⊤ Refusal
hold_cause id held = first_hold_cause (is_logged held id) (nat_lt (length held) most_held)
