-- What is refused changes nothing.
use Rattle.std.proofs.Common.{◌≡◌, inl, inr, ℕ, ◌+◌, ◌-◌, nat_lt, List, ◌++◌, length, drop, replicate, Bool, true, false, Option, Some, None, Result, Ok, Err, if◌then◌else◌, refl, ap, subst, ◌∙◌, append-nil, arith}
use Rattle.std.proofs.Math.Seq.{drop-length}
use Rattle.doc_api.specs.Words.{Refusal, Id, Op}
use Rattle.json_scalar.specs.declared.refusal.Refusal.TheVariants.{SeatsFull}
use Rattle.doc_api.specs.declared.ask.Command.{Command}
use Rattle.doc_api.specs.declared.ask.Command.TheVariants.{Change, Deliver, Forget}
use Rattle.doc_api.specs.declared.ask.Query.{Query}
use Rattle.doc_api.specs.declared.reply.Reply.TheVariants.{Refused}
use Rattle.doc_rules.specs.Document.{Document, for_seat, Acts, opens}
use Rattle.doc_rules.specs.Events.{Expected, replied, held, logged, Settles, expected_at_place, expected_of_delivery, Forgets, Does, Event}
use Rattle.doc_rules.specs.Replica.{Replica, find_id}
use Rattle.doc_rules.specs.Seats.{Seat, Answer, operation_ids, IsAnswerTo, ActsFor, AnswersFor}
use Rattle.doc_rules.specs.Unchanged.{called}

settles_same : (r s : Replica) (due : Expected) (cause : Refusal) → Settles r due (Refused cause) s → s ≡ r
settles_same r s (replied answer) cause h = h.1
settles_same r s (held op) cause h = let is = h.0 in cc
settles_same r s (logged op) cause h = let is = h.reply_is in cc

forgets_same : (r s : Replica) (i : Id) (found : Option Op) (cause : Refusal) → Forgets r i found (Refused cause) s → s ≡ r
forgets_same r s i (Some o) cause h = let is = h.0 in cc
forgets_same r s i None cause h = h.1

does_same : (r s : Replica) (command : Command) (cause : Refusal) → Does r command (Refused cause) s → s ≡ r
does_same r s (Change place m) cause (c, resolves, settles) = settles_same r s (expected_at_place r c m) cause settles
does_same r s (Deliver op) cause settles = settles_same r s (expected_of_delivery r op) cause settles
does_same r s (Forget i) cause forgets = forgets_same r s i (find_id r.held i) cause forgets

pub event_same : (r s : Replica) (command : Command) (cause : Refusal) → Event r command (Refused cause) s → s ≡ r
event_same r s command cause (inl does) = does_same r s command cause does
event_same r s command cause (inr lacks) = lacks.1

-- nothing was logged for the seat
nothing_new : (seat : ℕ) (d : Document) → for_seat seat d.replica d ≡ d
nothing_new seat d =
    let none : length d.replica.log - length d.replica.log ≡ 0 = omega arith in
    ap (λ (seats_of : List ℕ). record d { seats_of = seats_of }) (ap (λ n. d.seats_of ++ replicate n seat) none ∙ append-nil d.seats_of)

pub acts_same : (d e : Document) (seat : ℕ) (command : Command) (cause : Refusal) → Acts d seat command (Refused cause) e → e ≡ d
acts_same d e seat command cause (s, event, is) =
    is ∙ ap (λ (r : Replica). for_seat seat r d) (event_same d.replica s command cause event) ∙ nothing_new seat d

pub opens_same : (d : Document) (cause : Refusal) → (opens d).0 ≡ Err cause → (opens d).1 ≡ d
opens_same d cause = by (nat_lt d.opened d.seats)
  where
    by : (b : Bool)
        → (if◌then◌else◌ {A = Result ℕ Refusal × Document} b (Ok (d.opened + 1), record d { opened = d.opened + 1 }) (Err SeatsFull, d)).0 ≡ Err cause
        → (if◌then◌else◌ {A = Result ℕ Refusal × Document} b (Ok (d.opened + 1), record d { opened = d.opened + 1 }) (Err SeatsFull, d)).1 ≡ d
    by true h = cc
    by false h = refl

-- ---- seats

-- a seat to which no operation was acknowledged has made one more call
acknowledged_nothing : (s t : Seat) (a : Answer) → t.told ≡ s.told → IsAnswerTo s t a → t ≡ called s
acknowledged_nothing s t a nothing answer i = record { number = answer.same.0 i; seat = answer.same.1 i; told = nothing i; calls = answer.calls i }

pub act_called : (d e : Document) (s t : Seat) (command : Command) (a : Answer) (cause : Refusal) → a.reply ≡ Refused cause → ActsFor d s command a e t → (e ≡ d) × (t ≡ called s)
act_called d e s t command a cause is acts = (kept, acknowledged_nothing s t a nothing acts.answer)
  where
    kept : e ≡ d
    kept = acts_same d e s.seat command cause (subst (λ r. Acts d s.seat command r e) is acts.event)

    nothing : t.told ≡ s.told
    nothing =
        acts.told
        ∙ ap (λ (x : Document). s.told ++ operation_ids (drop (length d.replica.log) x.replica.log)) kept
        ∙ ap (λ ops. s.told ++ operation_ids ops) (drop-length d.replica.log)
        ∙ append-nil s.told

pub read_called : (d : Document) (s t : Seat) (query : Query) (a : Answer) → AnswersFor d s query a t → t ≡ called s
read_called d s t query a answers = acknowledged_nothing s t a answers.told answers.answer
