-- When the reply to a change may go out.
use Rattle.std.specs.Prelude.{◌≡◌, ◌⊎◌, ℕ, ◌+◌, ◌≤◌, Bool, true, List, Option, Some, None, MatchOption}
use Rattle.std.specs.Prelude.{slice_get}
use Rattle.server_core.specs.declared.due.Due.{Due}
use Rattle.server_core.specs.declared.progress.Pace.{Pace}
use Rattle.server_core.specs.declared.progress.Pace.TheVariants.{Behind, Durable}

-- so many accepted operations of a document need not be in the file
abbrev pub allowed : Pace → ℕ
allowed (Behind most) = most
allowed Durable = 0

-- The reply to a change after which the log has so many operations may go out, where the file has
-- so many of them; or nothing copies.
abbrev pub MayGo : Pace → Option ℕ → ℕ → Type 0
MayGo pace (Some stored) count = count ≤ stored + allowed pace
MayGo (Behind most) None count = Unit {0}
MayGo Durable None count = ⊥

-- so many operations of the document are due, or none is asked for
abbrev pub IsDue : List Due → ℕ → ℕ → Type 0
IsDue dues document count =
    (count ≡ 0)
    ⊎ ((due : Due) × (slice_get dues document ≡ Some due) × (due.document ≡ document)
    × (count ≤ due.count))

-- A sink waits for so many operations of the document; one that is shut lets nothing out.
abbrev pub Waits : Bool → List Due → ℕ → ℕ → Type 0
Waits is_shut dues document count = (is_shut ≡ true) ⊎ IsDue dues document count

-- What is due may go out: by what was read last of the same document, or since nothing is due.
abbrev pub IsPaid : Pace → Due → Type 0
IsPaid pace due =
    MatchOption due.last (due.count ≡ 0)
    (λ read. (read.document ≡ due.document) × MayGo pace read.stored due.count)

-- each of them may
abbrev pub ArePaid : Pace → List Due → Type 0
ArePaid pace dues = (i : ℕ) (due : Due) → slice_get dues i ≡ Some due → IsPaid pace due
