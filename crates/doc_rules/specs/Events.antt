-- What a command does to a replica, and what it answers. The tables have the rows of
-- docs/FORMATS.md, "The order of causes".
use Rattle.std.specs.Prelude.{◌≡◌, ◌⊎◌, ℕ, suc, nat_le, length, bytes_eq, ◌&&◌, not, Bool, true}
use Rattle.std.specs.Prelude.{false, List, [], ◌∷◌}
use Rattle.std.specs.Prelude.{Option, Some, None, is_some, Result, Ok, Err, if◌then◌else◌, ⊤}
use Rattle.doc_api.specs.Words.{Id, Refusal, NoMemory, Op, Cursor, Mutation}
use Rattle.json_scalar.specs.declared.refusal.Refusal.TheVariants.{AtHead, NotInList, LogFull}
use Rattle.json_scalar.specs.declared.refusal.Refusal.TheVariants.{TooManyReplicas}
use Rattle.json_scalar.specs.declared.refusal.Refusal.TheVariants.{IdConflict, OwnName, HeldFull}
use Rattle.json_scalar.specs.declared.refusal.Refusal.TheVariants.{NotHeld}
use Rattle.op_core.specs.Equality.{operation_eq}
use Rattle.op_core.specs.Limits.{most_held, most_operations, most_replicas}
use Rattle.op_core.specs.Shape.{is_head, ends_in_list, is_mutation, is_shaped}
use Rattle.doc_api.specs.declared.ask.Command.{Command}
use Rattle.doc_api.specs.declared.ask.Command.TheVariants.{Change, Deliver, Forget}
use Rattle.doc_api.specs.declared.reply.Reply.{Reply}
use Rattle.doc_api.specs.declared.reply.Reply.TheVariants.{Applied, Known, Held, Forgotten, Refused}
use Rattle.crdt_rules.specs.Dependencies.{is_ready, missing}
use Rattle.crdt_rules.specs.Effect.{is_insertion}
use Rattle.crdt_rules.specs.Fits.{replicas}
use Rattle.doc_rules.specs.Cause.{cause_of}
use Rattle.doc_rules.specs.Replica.{Replica, replica_facts, find_id, hold, without_held, append}
use Rattle.doc_rules.specs.Replica.{Drains, own_op}
use Rattle.doc_rules.specs.Resolve.{Resolves}

-- the outcome that the rules expect of a change of one's own, or of a delivered operation
pub data Expected : Type 0 where
  -- this answer, with nothing changed
  replied : Reply → Expected
  -- the operation is held
  held : Op → Expected
  -- it is logged, and all that it releases
  logged : Op → Expected

abbrev pub no : Refusal → Expected
no cause = replied (Refused cause)

-- by the first row whose test holds, or else this
abbrev pub first_row : List (Bool × Expected) → Expected → Expected
first_row [] due = due
first_row (row ∷ rows) due = if row.0 then row.1 else first_row rows due

-- by the cause against it
abbrev pub expected_by_cause : Result ⊤ Refusal → Op → Expected
expected_by_cause (Ok _) op = logged op
expected_by_cause (Err cause) op = no cause

-- ---- the tests of the tables

-- an operation of this id is among these
abbrev pub has_id_of : List Op → Op → Bool
has_id_of ops op = is_some (find_id ops op.id)

abbrev pub is_same : Op → Option Op → Bool
is_same op (Some o) = operation_eq o op
is_same op None = false

-- the operation of this id among these is this very one
abbrev pub has_equal : List Op → Op → Bool
has_equal ops op = is_same op (find_id ops op.id)

-- with this one the log has more than it may
abbrev pub is_past_operations : Op → List Op → Bool
is_past_operations op log = not (nat_le (length (op ∷ log)) most_operations)

abbrev pub is_past_replicas : Op → List Op → Bool
is_past_replicas op log = not (nat_le (length (replicas (op ∷ log))) most_replicas)

-- ---- the tables

-- a change of one's own at a cursor
abbrev pub changed_rows : Replica → Cursor → Mutation → List (Bool × Expected)
changed_rows r c m =
    (is_insertion m && not (ends_in_list c.path), no NotInList)
    ∷ (not (is_insertion m) && is_head c.key, no AtHead)
    ∷ (is_past_operations (own_op r c m) r.log, no LogFull)
    ∷ (is_past_replicas (own_op r c m) r.log, no TooManyReplicas)
    ∷ []

abbrev pub expected_of_change : Replica → Cursor → Mutation → Expected
expected_of_change r c m = first_row (changed_rows r c m) (logged (own_op r c m))

-- what is expected of a change where the steps of its place led, if they led anywhere
abbrev pub expected_at_place : Replica → Result Cursor Refusal → Mutation → Expected
expected_at_place r (Ok c) m = expected_of_change r c m
expected_at_place r (Err cause) m = no cause

-- a delivered operation
abbrev pub delivered_rows : Replica → Op → List (Bool × Expected)
delivered_rows r op =
    (has_equal r.log op, replied Known)
    ∷ (has_id_of r.log op, no IdConflict)
    ∷ (has_equal r.held op, replied (Held (missing op r.log)))
    ∷ (has_id_of r.held op, no IdConflict)
    ∷ (bytes_eq op.id.replica r.name, no OwnName)
    ∷ (not (is_ready op r.log) && nat_le most_held (length r.held), no HeldFull)
    ∷ (not (is_ready op r.log), held op)
    ∷ []

abbrev pub expected_of_delivery : Replica → Op → Expected
expected_of_delivery r op = first_row (delivered_rows r op) (expected_by_cause (cause_of op r.log) op)

-- ---- what comes of it

-- it is logged, and all that it releases
pub record Logs (r : Replica) (op : Op) (reply : Reply) (s : Replica) : Type 0 where
  pub count : ℕ
  pub dropped : ℕ
  pub reply_is : reply ≡ Applied (suc count) dropped op.id
  pub drains : Drains (append op r) count dropped s

abbrev pub Settles : Replica → Expected → Reply → Replica → Type 0
Settles r (replied answer) reply s = (reply ≡ answer) × (s ≡ r)
Settles r (held op) reply s = (reply ≡ Held (missing op r.log)) × (s ≡ hold op r)
Settles r (logged op) reply s = Logs r op reply s

-- ---- held operations that are dropped

abbrev pub Forgets : Replica → Id → Option Op → Reply → Replica → Type 0
Forgets r i (Some o) reply s = (reply ≡ Forgotten) × (s ≡ without_held i r)
Forgets r i None reply s = (reply ≡ Refused NotHeld) × (s ≡ r)

-- ---- commands

-- with memory at hand before the first change
abbrev pub Does : Replica → Command → Reply → Replica → Type 0
Does r (Change place m) reply s =
    (c : Result Cursor Refusal) × Resolves (replica_facts r) place.start place.steps c
    × Settles r (expected_at_place r c m) reply s
Does r (Deliver op) reply s = Settles r (expected_of_delivery r op) reply s
Does r (Forget i) reply s = Forgets r i (find_id r.held i) reply s

-- out of memory, and nothing has changed
abbrev pub IsOutOfMemory : Replica → Reply → Replica → Type 0
IsOutOfMemory r reply s = (reply ≡ Refused NoMemory) × (s ≡ r)

-- what a command may answer and do
abbrev pub Event : Replica → Command → Reply → Replica → Type 0
Event r command reply s = Does r command reply s ⊎ IsOutOfMemory r reply s

-- what the types of its parts give of a command
abbrev pub IsWellMade : Command → Type 0
IsWellMade (Change place m) = is_mutation m ≡ true
IsWellMade (Deliver op) = is_shaped op ≡ true
IsWellMade (Forget i) = Unit {0}
