-- Seats of a document (session handles): the told list of each (the ids acknowledged
-- to it), and the sums at the end.
use Rattle.std.specs.Prelude.{◌≡◌, ℕ, suc, ◌+◌, ◌<◌, ◌≤◌, List, [], ◌∷◌, ◌++◌, length, map, drop}
use Rattle.std.specs.Prelude.{sum}
use Rattle.doc_api.specs.Words.{Id, Op}
use Rattle.json_scalar.specs.declared.refusal.Refusal.TheVariants.{NotOpen}
use Rattle.doc_api.specs.declared.ask.Command.{Command}
use Rattle.doc_api.specs.declared.ask.Query.{Query}
use Rattle.doc_api.specs.declared.reply.Reply.{Reply}
use Rattle.doc_api.specs.declared.reply.Reply.TheVariants.{Refused}
use Rattle.doc_rules.specs.Document.{Document, Acts, Answers, count_of, count_in, logged_by}

pub record Seat : Type 0 where
  -- its document's number among those of the server, and its own among the document's seats
  pub number : ℕ
  pub seat : ℕ
  -- the told list: the ids acknowledged to it, in order
  pub told : List Id
  pub calls : ℕ

-- a reply, and to which call of which seat it was given; 0 is no call
pub record Answer : Type 0 where
  pub reply : Reply
  pub number : ℕ
  pub seat : ℕ
  pub call : ℕ

abbrev pub operation_ids : List Op → List Id
operation_ids ops = map (λ op. op.id) ops

-- a seat of the document of this number
abbrev pub IsSeatOf : ℕ → Document → Seat → Type 0
IsSeatOf number d s = (s.number ≡ number) × (0 < s.seat) × (s.seat ≤ d.opened)

-- a is the answer to the call that took the seat from s to t
pub record IsAnswerTo (s t : Seat) (a : Answer) : Type 0 where
  pub same : (t.number ≡ s.number) × (t.seat ≡ s.seat)
  pub calls : t.calls ≡ s.calls + 1
  pub of : (a.number ≡ s.number) × (a.seat ≡ s.seat) × (a.call ≡ t.calls)

-- a command for a seat: one event, acknowledged to the seat. It has as many operations as its told
-- list has ids, before and after; the list grows by as many as the reply counts
pub record ActsFor (d : Document) (s : Seat) (command : Command) (a : Answer) (e : Document) (t : Seat) : Type 0 where
  pub event : Acts d s.seat command a.reply e
  pub told : t.told ≡ s.told ++ operation_ids (drop (length d.replica.log) e.replica.log)
  pub rises : length t.told ≡ length s.told + count_in a.reply
  pub before : count_of s.seat d.seats_of ≡ length s.told
  pub after : count_of s.seat e.seats_of ≡ length t.told
  pub answer : IsAnswerTo s t a

-- a reading for a seat
pub record AnswersFor (d : Document) (s : Seat) (query : Query) (a : Answer) (t : Seat) : Type 0 where
  pub reads : Answers d s.seat query a.reply
  pub told : t.told ≡ s.told
  pub counted : count_of s.seat d.seats_of ≡ length s.told
  pub answer : IsAnswerTo s t a

-- a call with a seat of another document: the answer is to that seat, and of no call of it
pub record TurnsAway (d : Document) (s : Seat) (a : Answer) (e : Document) (t : Seat) : Type 0 where
  pub same : (e ≡ d) × (t ≡ s)
  pub answer : (a.reply ≡ Refused NotOpen) × (a.call ≡ 0)
  pub of : (a.number ≡ s.number) × (a.seat ≡ s.seat)

-- ---- at the end

-- a seat's end is the seat as its session returned it; its told list
-- has just its operations, in order
abbrev pub IsEndOf : ℕ → Document → ℕ → Seat → Type 0
IsEndOf number d seat s = (s.number ≡ number) × (s.seat ≡ seat)
    × (s.told ≡ operation_ids (logged_by seat d))

-- one end for each seat behind n, in the order of seats
abbrev pub AreEndsAfter : ℕ → Document → ℕ → List Seat → Type 0
AreEndsAfter number d n [] = n ≡ d.opened
AreEndsAfter number d n (s ∷ ends) = IsEndOf number d (suc n) s × AreEndsAfter number d (suc n) ends

-- one for each opened seat
abbrev pub AreEndsOf : ℕ → Document → List Seat → Type 0
AreEndsOf number d ends = AreEndsAfter number d 0 ends

abbrev pub told_counts : List Seat → List ℕ
told_counts ends = map (λ s. length s.told) ends

pub record Totals : Type 0 where
  pub accepted : ℕ
  pub by_seat : List ℕ
  pub logged : ℕ
  pub copied : ℕ

-- the totals that the ends of all opened seats give
abbrev pub totals_of : Document → List Seat → Totals
totals_of d ends =
    record {
      accepted = sum (told_counts ends);
      by_seat = told_counts ends;
      logged = length d.replica.log;
      copied = d.copied;
    }
