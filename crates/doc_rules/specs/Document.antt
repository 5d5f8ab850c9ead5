-- A document that many seats share, and its events.
use Rattle.std.specs.Prelude.{◌≡◌, ◌≢◌, ℕ, zero, suc, ◌+◌, ◌-◌, ◌≤◌, nat_lt, nat_le, ◌==◌, ◌&&◌}
use Rattle.std.specs.Prelude.{List, [], ◌∷◌, ◌++◌}
use Rattle.std.specs.Prelude.{length, replicate, take, drop, Result, Ok, Err, if◌then◌else◌}
use Rattle.std.specs.List.{All}
use Rattle.doc_api.specs.Words.{Refusal, Op}
use Rattle.json_scalar.specs.declared.refusal.Refusal.TheVariants.{SeatsFull}
use Rattle.doc_api.specs.declared.ask.Command.{Command}
use Rattle.doc_api.specs.declared.ask.Counts.{Counts}
use Rattle.doc_api.specs.declared.ask.Query.{Query}
use Rattle.doc_api.specs.declared.reply.Reply.{Reply}
use Rattle.doc_api.specs.declared.reply.Reply.TheVariants.{Applied}
use Rattle.doc_rules.specs.Replica.{Replica, IsValidReplica}
use Rattle.doc_rules.specs.Events as replica
use Rattle.doc_rules.specs.Answers as replica_answers

-- the seats are numbered from 1 on, and what stood there at the start is of seat 0
pub record Document : Type 0 where
  pub replica : Replica
  -- of each logged operation, the seat that it was logged for
  pub seats_of : List ℕ
  pub seats : ℕ
  pub opened : ℕ
  -- how many logged operations the stored log has
  pub copied : ℕ

-- ---- shares

-- the operations of a seat, in order
abbrev pub by : ℕ → List Op → List ℕ → List Op
by seat (op ∷ log) (s ∷ seats) = if s == seat then op ∷ by seat log seats else by seat log seats
by seat _ _ = []

abbrev pub logged_by : ℕ → Document → List Op
logged_by seat d = by seat d.replica.log d.seats_of

-- how many of these are the seat's
abbrev pub count_of : ℕ → List ℕ → ℕ
count_of seat [] = 0
count_of seat (s ∷ seats) = (if s == seat then 1 else 0) + count_of seat seats

-- how many are of the seats 1 to n
abbrev pub total_of : ℕ → List ℕ → ℕ
total_of zero seats = 0
total_of (suc n) seats = total_of n seats + count_of (suc n) seats

-- how many operations a reply counts
abbrev pub count_in : Reply → ℕ
count_in (Applied count dropped i) = count
count_in _ = 0

-- ---- events

-- what a replica logged for a seat is the seat's
abbrev pub for_seat : ℕ → Replica → Document → Document
for_seat seat s d =
    record d { replica = s; seats_of = d.seats_of ++ replicate (length s.log - length d.replica.log) seat }

-- a command for a seat
abbrev pub Acts : Document → ℕ → Command → Reply → Document → Type 0
Acts d seat command reply e = (s : Replica) × replica.Event d.replica command reply s
    × (e ≡ for_seat seat s d)

-- what an event for a seat gave it
pub record GivesTo (d : Document) (seat : ℕ) (reply : Reply) (e : Document) : Type 0 where
  pub new : List Op
  pub count : length new ≡ count_in reply
  pub log : e.replica.log ≡ d.replica.log ++ new
  pub mine : logged_by seat e ≡ logged_by seat d ++ new
  pub others : (t : ℕ) → seat ≢ t → logged_by t e ≡ logged_by t d

-- what the document counts for a seat
abbrev pub counts_for : ℕ → Document → Counts
counts_for seat d = record { mine = count_of seat d.seats_of; copied = d.copied }

-- a reading for a seat
abbrev pub Answers : Document → ℕ → Query → Reply → Type 0
Answers d seat query reply =
    replica_answers.MayAnswer d.replica (counts_for seat d) query reply

-- the next seat, or that there is none
abbrev pub opens : Document → Result ℕ Refusal × Document
opens d =
    if nat_lt d.opened d.seats then (Ok (d.opened + 1), record d { opened = d.opened + 1 }) else (Err SeatsFull, d)

-- so many are copied, where that is no fewer than were and no more than are logged
abbrev pub copied_to : ℕ → Document → Document
copied_to n d = if nat_le d.copied n && nat_le n (length d.replica.log) then record d { copied = n }
    else d

-- the operations after the first `from`, at most so many
abbrev pub tail : ℕ → ℕ → Document → List Op
tail from most d = take most (drop from d.replica.log)

-- ---- what a document keeps

pub record IsSound (d : Document) : Type 0 where
  pub kept : IsValidReplica d.replica
  pub each_has_a_seat : length d.seats_of ≡ length d.replica.log
  pub opened_alone : All (λ s. s ≤ d.opened) d.seats_of
  pub few : d.opened ≤ d.seats
  pub within : d.copied ≤ length d.replica.log

-- before anything happens: what was restored, of seat 0
abbrev pub new_document : List ℕ → List Op → ℕ → Document
new_document name log seats =
    record {
      replica = record { name = name; log = log; held = [] };
      seats_of = replicate (length log) 0;
      seats = seats;
      opened = 0;
      copied = length log;
    }
