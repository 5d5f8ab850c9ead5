-- What a run of changes does to a replica: today's events, one after another.
use Rattle.std.specs.Prelude.{◌≡◌, ℕ, ◌+◌, ◌-◌, ◌^◌, min, nat_le, length, map, take, drop, replicate}
use Rattle.std.specs.Prelude.{Bool, List, [], ◌∷◌, ◌++◌, Option, Some, None, Result, Ok, Err, ⊤}
use Rattle.std.specs.Prelude.{MatchBool, MatchResult}
use Rattle.json_scalar.specs.declared.refusal.Refusal.TheVariants.{BadRequest, LogFull}
use Rattle.op_core.specs.Op.{Op}
use Rattle.op_core.specs.Limits.{most_operations}
use Rattle.op_core.specs.declared.cursor.Key.TheVariants.{Element}
use Rattle.doc_api.specs.Words.{Id, Refusal, Cursor, Mutation, Insert, Delete}
use Rattle.doc_api.specs.declared.ask.Command.TheVariants.{Change}
use Rattle.doc_api.specs.declared.place.Place.{Place}
use Rattle.doc_api.specs.declared.place.Step.{Step}
use Rattle.doc_api.specs.declared.place.Step.TheVariants.{Get, Index}
use Rattle.doc_api.specs.declared.reply.Reply.{Reply}
use Rattle.doc_api.specs.declared.reply.Reply.TheVariants.{Applied, Refused}
use Rattle.doc_rules.specs.Events.{Event}
use Rattle.doc_rules.specs.Replica.{Replica, find_id, replica_facts}
use Rattle.doc_rules.specs.Resolve.{Resolves}
use Rattle.replica_c.specs.Places.{whole_document}
use Rattle.replica_c.specs.declared.ask.Run.{Run}
use Rattle.replica_c.specs.declared.ask.Run.TheVariants.{Inserts, Deletes}

-- ---- its changes, and where each is made

abbrev pub changes_of : Run → List Mutation
changes_of (Inserts place vals) = map Insert vals
changes_of (Deletes place count) = replicate count Delete

abbrev pub how_many : Run → ℕ
how_many (Inserts place vals) = length vals
how_many (Deletes place count) = count

abbrev pub first_place : Run → Place
first_place (Inserts place vals) = place
first_place (Deletes place count) = place

abbrev pub at_cursor : Cursor → Place
at_cursor c = record { start = c; steps = [] }

-- the element that an operation inserted, in its list
abbrev pub element_place : Option Op → Place
element_place None = at_cursor whole_document
element_place (Some op) = at_cursor (record { path = op.cursor.path; key = Element op.id })

-- where the change is made that follows the one of this id: an insertion behind the new element
abbrev pub next_place : Run → List Op → Id → Place
next_place (Inserts place vals) log id = element_place (find_id log id)
next_place (Deletes place count) log id = place

-- ---- what comes of it

-- These changes of a run were made, one after another, each at its place: the ids of their
-- operations, how many operations were logged and dropped, and where the next one would be made.
pub data Makes : Run → Replica → List Mutation → List Id → ℕ → ℕ → Place → Replica → Type 0 where
  none : {run : Run} {r : Replica} → Makes run r [] [] 0 0 (first_place run) r
  more : {run : Run} {r mid s : Replica} {made : List Mutation} {ids : List Id} {n d : ℕ} {place : Place}
      {change : Mutation} {count dropped : ℕ} {id : Id}
      → Makes run r made ids n d place mid → Event mid (Change place change) (Applied count dropped id) s
      → Makes run r (made ++ change ∷ []) (ids ++ id ∷ []) (n + count) (d + dropped) (next_place run s.log id) s

-- nothing is left to make; or the next change is refused, which changes nothing
abbrev pub StopsRun : List Mutation → Place → Replica → Result ⊤ Refusal → Type 0
StopsRun left place s (Ok _) = left ≡ []
StopsRun left place s (Err cause) =
    (change : Mutation) × (later : List Mutation) × (left ≡ change ∷ later)
    × Event s (Change place change) (Refused cause) s

-- the sums, and the first id; or the cause against the first change
abbrev pub reply_of_run : List Id → ℕ → ℕ → Result ⊤ Refusal → Reply
reply_of_run (id ∷ ids) n d why = Applied n d id
reply_of_run [] n d (Err cause) = Refused cause
reply_of_run [] n d (Ok _) = Refused BadRequest

-- all changes of a run were made, or those before the first that was refused
pub record EndsRun (r : Replica) (run : Run) (ids : List Id) (n d : ℕ) (why : Result ⊤ Refusal) (s : Replica) : Type 0 where
  pub made : List Mutation
  pub left : List Mutation
  pub all : changes_of run ≡ made ++ left
  pub place : Place
  pub makes : Makes run r made ids n d place s
  pub stops : StopsRun left place s why

abbrev pub MakesAll : Replica → Run → Reply → List Id → Replica → Type 0
MakesAll r run reply ids s =
    (n d : ℕ) × (why : Result ⊤ Refusal) × EndsRun r run ids n d why s × (reply ≡ reply_of_run ids n d why)

-- it is refused, and nothing is made
abbrev pub MakesNone : Replica → Refusal → Reply → List Id → Replica → Type 0
MakesNone r cause reply ids s = (reply ≡ Refused cause) × (ids ≡ []) × (s ≡ r)

-- ---- what is looked at before

-- the log has room for an operation of each change
abbrev pub has_room_for : Replica → Run → Bool
has_room_for r run = nat_le (how_many run) (most_operations - length r.log)

-- the index so many further on, if it is one (of 64 bits)
abbrev pub further : ℕ → Step → Step
further n (Get text) = Get text
further n (Index i) = Index (min (i + n) (2 ^ 64 - 1))

-- steps whose last one is so much further on
abbrev pub last_further : ℕ → List Step → List Step
last_further n [] = []
last_further n (step ∷ []) = further n step ∷ []
last_further n (step ∷ next ∷ steps) = step ∷ last_further n (next ∷ steps)

abbrev pub further_place : ℕ → Place → Place
further_place n place = record { start = place.start; steps = last_further n place.steps }

-- a run of deletions begins where the list has an element for its last one
abbrev pub MakesInRoom : Replica → Run → Reply → List Id → Replica → Type 0
MakesInRoom r (Inserts place vals) reply ids s = MakesAll r (Inserts place vals) reply ids s
MakesInRoom r (Deletes place count) reply ids s =
    (c : Result Cursor Refusal)
    × Resolves (replica_facts r) place.start (last_further (count - 1) place.steps) c
    × MatchResult c (λ _. MakesAll r (Deletes place count) reply ids s)
    (λ cause. MakesNone r cause reply ids s)

abbrev pub DoesRun : Replica → Run → Reply → List Id → Replica → Type 0
DoesRun r run reply ids s =
    MatchBool (has_room_for r run) (MakesInRoom r run reply ids s) (MakesNone r LogFull reply ids s)
