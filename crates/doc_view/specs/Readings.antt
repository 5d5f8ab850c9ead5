-- What a reader of a tree answers.
use Rattle.std.specs.Prelude.{◌≡◌, List, Result, Err, MatchBool, MatchResult}
use Rattle.doc_api.specs.Words.{Refusal, NoMemory, Cursor, Key, Tagged}
use Rattle.json_scalar.specs.declared.refusal.Refusal.TheVariants.{AtHead}
use Rattle.op_core.specs.Shape.{is_head}

-- something of which this holds, or it is out of memory
abbrev pub GivesUnlessMemory : {X : Type 0} → (X → Type 0) → Result X Refusal → Type 0
GivesUnlessMemory holds r = MatchResult r holds (λ e. e ≡ NoMemory)

-- a reading of this kind at a cursor; there is none at a head
abbrev pub ReadsUnlessMemory : {X : Type 0} → (List Tagged → Key → X → Type 0) → Cursor
    → Result X Refusal → Type 0
ReadsUnlessMemory reads c r = MatchBool (is_head c.key) (r ≡ Err AtHead) (GivesUnlessMemory (reads c.path c.key) r)
