-- What a session owes: how many operations of a document must be stored before its replies go out.
use Rattle.std.specs.Prelude.{◌≡◌, ◌⊎◌, ℕ, ◌<◌, ◌≤◌, List, [], length, get_or, if◌then◌else◌}
use Rattle.share_ledger.specs.Begun.{Origin}
use Rattle.doc_api.specs.Words.{Id}
use Rattle.doc_rules.specs.Seats.{Seat}
use Rattle.doc_api.specs.declared.ask.Command.{Command}
use Rattle.doc_api.specs.declared.reply.Reply.{Reply}
use Rattle.doc_rules.specs.Document.{Document, Acts}
use Rattle.locked_doc.specs.Locked.{says_logged}
use Rattle.session_rules.specs.Session.{KnownSeat}
use Rattle.session_rules.specs.Shelf.{IsDocument, IsSomewhere}
use Rattle.server_core.specs.declared.owing.Owing.{Owing}

-- How many of the document's operations must be stored before this reply is durable: all that
-- are logged, where it says of an operation that it is logged; else none.
abbrev pub owed_count : Reply → Document → ℕ
owed_count reply d = if says_logged reply then length d.replica.log else 0

-- what is owed of the document of this number
abbrev pub owes : Owing → ℕ → ℕ
owes owing number = get_or owing.counts.items number 0

-- what is owed of it isn't among what was not said yet
abbrev pub IsNoted : Owing → ℕ → Type 0
IsNoted owing number = (number < owing.from) ⊎ (owing.to ≤ number)

-- over documents of which each number's has this origin
module _ (origin : ℕ → Origin) where
  -- So much is owed for the ids that were acknowledged to a seat: in some state of its document that
  -- has at most so many operations, these are the seat's.
  abbrev pub IsOwed : ℕ → ℕ → List Id → ℕ → Type 0
  IsOwed number seat told count =
      (told ≡ [])
      ⊎ ((d : Document) × IsDocument origin number d × IsSomewhere d seat told
      × (length d.replica.log ≤ count))

  -- A seat of the document of this number among these, for which so much is owed that what was
  -- acknowledged to it is stored before a reply goes out.
  abbrev pub IsSeatOwed : List (List ℕ) → Owing → ℕ → Seat → Type 0
  IsSeatOwed names owing number s =
      (number < length names) × (s.number ≡ number) × (0 < s.seat)
      × IsOwed number s.seat s.told (owes owing number)

  -- The document gave this reply in some state, and it is durable once so many operations are stored.
  abbrev pub IsDurableWith : ℕ → KnownSeat → Command → Reply → ℕ → Type 0
  IsDurableWith number s command reply count =
      (d e : Document) × IsDocument origin number d × IsSomewhere d s.number s.told
      × Acts d s.number command reply e × (owed_count reply e ≤ count)
