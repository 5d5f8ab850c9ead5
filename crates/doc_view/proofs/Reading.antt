-- From what is given to what is read.
use Rattle.std.proofs.Common.{◌≡◌, List, Result, Ok, Err, false}
use Rattle.doc_api.specs.Words.{Refusal, Cursor, Key, Tagged}
use Rattle.op_core.specs.Shape.{is_head}
use Rattle.doc_view.specs.Readings.{GivesUnlessMemory, ReadsUnlessMemory}

-- what holds of all that is given
pub gives : {X : Type 0} (given holds : X → Type 0) (r : Result X Refusal) → ((x : X) → given x → holds x) → GivesUnlessMemory given r → GivesUnlessMemory holds r
gives given holds (Ok x) so g = so x g
gives given holds (Err e) so g = g

-- a reading at a cursor that is not at a head
pub reads : {X : Type 0} (given : X → Type 0) (holds : List Tagged → Key → X → Type 0) (c : Cursor) (r : Result X Refusal) → is_head c.key ≡ false
    → ((x : X) → given x → holds c.path c.key x) → GivesUnlessMemory given r → ReadsUnlessMemory holds c r
reads given holds c r no_head so g = rw no_head (gives given (holds c.path c.key) r so g)
