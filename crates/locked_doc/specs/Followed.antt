-- What the copier of a document has read of its log, and what is stored of it.
use Rattle.std.specs.Prelude.{ℕ, ◌≡◌, List, ◌++◌, length, Option, IfSome}
use Rattle.lamport_id.specs.declared.id.Id.{Id}
use Rattle.op_core.specs.Op.{Op}
use Rattle.share_ledger.specs.Begun.{Origin}
use Rattle.share_ledger.specs.Counters.{Counter, seat_counter, StoredIds, stored_ids}
use Rattle.doc_rules.specs.Seats.{operation_ids}

-- the number of a document, and the ids of the operations that its copier has read, in order
pub record Followed : Type 0 where
  pub number : ℕ
  pub ids : List Id

-- the seat of a copier: as `Followed`, and the ids of the operations that are stored, in order
pub record Copying : Type 0 where
  pub number : ℕ
  pub ids : List Id
  pub stored : List Id

abbrev pub copying : ℕ → List Id → List Id → Copying
copying number ids stored = record { number = number; ids = ids; stored = stored }

-- the one list is a prefix of the other
abbrev pub IsPrefix : {X : Type 0} → List X → List X → Type 0
IsPrefix {X} front all = (rest : List X) × (all ≡ front ++ rest)

-- The book of the copier is that of seat 0. Its ids are a prefix of the log's, and its
-- count is how many they are.
pub record Follows (number : ℕ) (log : List Op) (book : Counter) : Type 0 where
  pub counted : book ≡ seat_counter number 0 (length book.ids) book.ids
  pub prefix : IsPrefix book.ids (operation_ids log)

-- The copier's seat that isn't opened yet, and the sessions' half of what is stored: just what the
-- document began with.
abbrev pub HasUnopened : ℕ → Origin → Option (Copying × StoredIds) → Type 0
HasUnopened number origin copier = IfSome copier
    (λ c. (c.0.number ≡ number) × (c.0.stored ≡ operation_ids origin.log)
    × (c.1 ≡ stored_ids number (operation_ids origin.log)))
