-- What is copied: while sessions run, a copier writes what they log to the stored log, in batches.
use Rattle.std.specs.Prelude.{◌≡◌, ◌≢◌, ◌<◌, ℕ, Bool, true, false, List, [], length, get_or, max}
use Rattle.std.specs.Prelude.{◌⊎◌, Option, Some, None}
use Rattle.share_ledger.specs.Begun.{Origin}
use Rattle.doc_api.specs.Words.{Op}
use Rattle.doc_rules.specs.Document.{Document, IsSound, tail}
use Rattle.locked_doc.specs.Followed.{Copying}
use Rattle.locked_doc.specs.Locked.{Begins}
use Rattle.stored_log.specs.Docs.{Doc, IsBatch, add_batch, log_of}
use Rattle.stored_log.specs.Limits.{most_rows}
use Rattle.stored_log.specs.declared.fault.Fault.{Fault}
use Rattle.stored_log.specs.declared.fault.Fault.TheVariants.{Store}
use Rattle.stored_log.specs.Log.{LogState}
use Rattle.served_log.specs.Known.{StaysKnown}

-- the next entries of the document of this name, of which there are some, were added
pub record AddsNext (name : List ℕ) (old new : List Doc) : Type 0 where
  pub ops : List Op
  pub some : ops ≢ []
  pub batch : IsBatch name (length (log_of name old)) ops old
  pub added : new ≡ add_batch name ops old

-- so many next entries of the document of this name were added, of which there are some
pub record AddsMany (name : List ℕ) (count : ℕ) (old new : List Doc) : Type 0 where
  pub next : AddsNext name old new
  pub many : length next.ops ≡ count

-- the next operations after so many of the document of this number, in some sound state
abbrev pub IsNextOf : (ℕ → Origin) → ℕ → ℕ → List Op → Type 0
IsNextOf origin number from ops =
    (d : Document) × IsSound d × Begins (origin number) d × (ops ≡ tail from most_rows d)

-- so many were added under a name, and they are the next ones of the document of this number
pub record AddsOf (origin : ℕ → Origin) (number : ℕ) (name : List ℕ) (count : ℕ)
    (old new : List Doc) : Type 0 where
  pub adds : AddsMany name count old new
  pub of : IsNextOf origin number (length (log_of name old)) adds.next.ops

-- One batch after another was added, and whether there was one. What is added under a
-- name are the next operations of the document of which that is the name: the document
-- whose number is the name's place.
pub data AreAdded (origin : ℕ → Origin) (names : List (List ℕ)) (old : List Doc) : Bool → List Doc
    → Type 0 where
  none : AreAdded origin names old false old
  more : {any : Bool} {before after : List Doc} {number count : ℕ}
      → AreAdded origin names old any before
      → number < length names → AddsOf origin number (get_or names number []) count before after
      → AreAdded origin names old true after

-- One batch after another was added, and the longest one has so many
-- entries: 0 where there was none.
pub data AreAddedUpTo (origin : ℕ → Origin) (names : List (List ℕ)) (old : List Doc) : ℕ → List Doc
    → Type 0 where
  none_yet : AreAddedUpTo origin names old 0 old
  one_more : {most count number : ℕ} {before after : List Doc}
      → AreAddedUpTo origin names old most before
      → number < length names → AddsOf origin number (get_or names number []) count before after
      → AreAddedUpTo origin names old (max most count) after

-- the stored log has what it had, and then batches of these documents, if any
pub record AddsBatches (origin : ℕ → Origin) (names : List (List ℕ)) (old new : LogState) : Type 0 where
  pub any : Bool
  pub added : AreAdded origin names old.docs any new.docs
  pub epoch : new.epoch ≡ old.epoch

-- What a copier made of a stored log, beside documents of these names, and the fault that ended it,
-- if one did. Without a fault the log has more batches, and still works: of all operations, or
-- where memory lacked to the end of some. What it has of each document stays a prefix of what the
-- copier read there, in seats that had read so much before, and just that counts as stored. Once it
-- has failed nothing is known.
pub record HasCopied (origin : ℕ → Origin) (names : List (List ℕ)) (old new : LogState)
    (before after : List Copying) (fault : Option Fault) : Type 0 where
  pub copied : fault ≡ None → AddsBatches origin names old new
  pub works : fault ≡ None → old.has_failed ≡ false → new.has_failed ≡ false
  pub grown : new.has_failed ≡ false → AddsBatches origin names old new
  pub known : (fault ≡ Some Store) ⊎ StaysKnown names old.docs before new.docs after
  pub alone : new.is_alone ≡ old.is_alone
