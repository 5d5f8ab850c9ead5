-- What a copier has read of documents, of which the stored log has a prefix, and what counts as
-- stored.
use Rattle.std.specs.Prelude.{◌≡◌, ◌<◌, ℕ, List, [], ◌++◌, length, get_or, take, drop}
use Rattle.doc_api.specs.Words.{Id, Op}
use Rattle.doc_rules.specs.Seats.{operation_ids}
use Rattle.locked_doc.specs.Followed.{Followed, Copying, copying, IsPrefix}
use Rattle.stored_log.specs.Docs.{Doc, log_of}
use Rattle.stored_log.specs.Limits.{most_rows}

-- in the place of a seat where there is none
abbrev pub nothing_read : Copying
nothing_read = copying 0 [] []

-- in the place of a copier's book where there is none
abbrev pub no_book : Followed
no_book = record { number = 0; ids = [] }

-- each seat has the number of its place
abbrev pub AreNumbered : List Copying → Type 0
AreNumbered seats = (k : ℕ) → k < length seats → (get_or seats k nothing_read).number ≡ k

-- these are the next operations after so many of those that were read, by their ids
abbrev pub AreReadFrom : ℕ → List Op → List Id → Type 0
AreReadFrom from ops read = operation_ids ops ≡ take most_rows (drop from read)

-- What the stored log has of the document of this name is a prefix of what was read of it, by the
-- ids.
abbrev pub HoldsPrefix : List Doc → List ℕ → List Id → Type 0
HoldsPrefix docs name read = IsPrefix (operation_ids (log_of name docs)) read

-- A copier's seat knows what the stored log has of the document of this name: it has read all of
-- it, and just that counts as stored, by the ids.
pub record KnowsRows (docs : List Doc) (name : List ℕ) (seat : Copying) : Type 0 where
  pub prefix : HoldsPrefix docs name seat.ids
  pub stored : seat.stored ≡ operation_ids (log_of name docs)

-- of each document of these names, in their order
pub record AreKnown (docs : List Doc) (names : List (List ℕ)) (seats : List Copying) : Type 0 where
  pub many : length seats ≡ length names
  pub each : (k : ℕ) → k < length names
      → KnowsRows docs (get_or names k []) (get_or seats k nothing_read)

-- The log of the document of this name ends with these operations.
abbrev pub EndsWith : List Doc → List ℕ → List Op → Type 0
EndsWith docs name ops = (front : List Op) × (log_of name docs ≡ front ++ ops)

-- no two documents have one name
abbrev pub AllDiffer : List (List ℕ) → Type 0
AllDiffer names = (i k : ℕ) → i < length names → k < length names
    → get_or names i [] ≡ get_or names k [] → i ≡ k

-- Where the names differ: what the log has stays a prefix of what was read, and counts as stored.
abbrev pub StaysKnown : List (List ℕ) → List Doc → List Copying → List Doc → List Copying → Type 0
StaysKnown names old before new after =
    AllDiffer names → AreKnown old names before → AreKnown new names after
