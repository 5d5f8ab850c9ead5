-- Where the steps of a place led.
use Rattle.std.specs.Prelude.{◌≢◌, List, Result, Err}
use Rattle.doc_api.specs.Words.{Refusal, NoMemory, Cursor, Op}
use Rattle.doc_api.specs.declared.place.Step.{Step}
use Rattle.crdt_rules.specs.Facts.{facts}
use Rattle.crdt_rules.specs.Log.{replay}
use Rattle.doc_rules.specs.Resolve.{Resolves}

-- unless out of memory, some steps in the document of the log lead there
abbrev pub IsPlaceOf : List Op → Result Cursor Refusal → Type 0
IsPlaceOf log c =
    c ≢ Err NoMemory → (start : Cursor) × (steps : List Step)
    × Resolves (facts (replay log)) start steps c
