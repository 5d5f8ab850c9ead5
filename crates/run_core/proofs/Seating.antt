-- Seats of the documents of a run.
use Rattle.std.proofs.Common.{◌≡◌, ◌⊎◌, inl, inr, ◌≤◌, ◌<◌, ◌+◌, ◌++◌, ◌==◌, ℕ, suc, nat_lt, Bool, true, false, List, [], ◌∷◌, length, drop, Result, Ok, Err, IfOk, if◌then◌else◌, refl, sym, ap, ap₂, ◌∙◌, subst, arith}
use Rattle.std.proofs.lemmas.List.{map-append}
use Rattle.std.proofs.Math.Seq.{drop-append_seam}
use Rattle.std.proofs.lemmas.Bool.{eqb-true}
use Rattle.std.specs.List.{All}
use Rattle.doc_api.specs.Words.{Op, Refusal, NoMemory}
use Rattle.json_scalar.specs.declared.refusal.Refusal.TheVariants.{SeatsFull, ListsDiffer}
use Rattle.doc_api.specs.declared.ask.Command.{Command}
use Rattle.doc_rules.specs.Document.{Document, IsSound, by, logged_by, opens}
use Rattle.doc_rules.specs.Seats.{Seat, Answer, ActsFor, AnswersFor, AreEndsOf, IsEndOf, operation_ids}
use Rattle.doc_rules.proofs.Shared.{acts_gives}
use Rattle.doc_api.specs.declared.ask.Query.{Query}
use Rattle.locked_doc.specs.Locked.{seat_opened}
use Rattle.session_core.specs.Seats.{new_seat_number}
use Rattle.run_core.specs.HasTold.{HasTold}

pub told_is : (n : ℕ) (r : Result ℕ Refusal) → new_seat_number (λ (s : Seat). s) (seat_opened n r) ≡ r
told_is n (Ok seat) = refl
told_is n (Err cause) = refl

-- nothing is logged for a seat that is not opened yet
by-none : (n : ℕ) (log : List Op) (seats : List ℕ) → All (λ s. s ≤ n) seats → by (n + 1) log seats ≡ []
by-none n [] seats few = refl
by-none n (op ∷ log) [] few = refl
by-none n (op ∷ log) (s ∷ seats) few = go (s == n + 1) refl (few 0 s (omega arith)) (by-none n log seats (λ k x less. few (suc k) x (omega arith)))
  where
    go : (b : Bool) → (s == n + 1) ≡ b → s ≤ n → by (n + 1) log seats ≡ [] → (if b then op ∷ by (n + 1) log seats else by (n + 1) log seats) ≡ []
    go true e low rest = let is = eqb-true s (n + 1) e in absurd (omega (arith, is, low))
    go false e low rest = rest

-- a new seat is one of its document's, and was told nothing
opened_here : (n : ℕ) (d : Document) → IsSound d → IfOk (seat_opened n (opens d).0) (λ s. HasTold n (opens d).1 s)
opened_here n d sound = go (nat_lt d.opened d.seats)
  where
    go : (b : Bool)
        → IfOk (seat_opened n (if◌then◌else◌ {A = Result ℕ Refusal × Document} b (Ok (d.opened + 1), record d { opened = d.opened + 1 }) (Err SeatsFull, d)).0)
        (λ s. HasTold n (if◌then◌else◌ {A = Result ℕ Refusal × Document} b (Ok (d.opened + 1), record d { opened = d.opened + 1 }) (Err SeatsFull, d)).1 s)
    go true = record { seat = (refl, omega arith, omega arith); told = sym (ap operation_ids (by-none d.opened d.replica.log d.seats_of sound.opened_alone)) }
    go false = tt

pub opened_at : (n m : ℕ) (d e : Document) (r : Result Seat Refusal) → IsSound d → r ≡ seat_opened n (opens d).0 → m ≡ n → e ≡ (opens d).1 → IfOk r (λ s. HasTold m e s)
opened_at n m d e r sound given number document =
    subst (λ (x : Result Seat Refusal). IfOk x (λ s. HasTold m e s)) (sym given)
    (subst (λ k. IfOk (seat_opened n (opens d).0) (λ s. HasTold k e s)) (sym number)
    (subst (λ (x : Document). IfOk (seat_opened n (opens d).0) (λ s. HasTold n x s)) (sym document) (opened_here n d sound)))

-- a seat stays one of its document's, and was told what is logged for it
pub acted_here : (n m : ℕ) (d e : Document) (s t : Seat) (command : Command) (a : Answer) → IsSound d → m ≡ n → HasTold n d s → ActsFor d s command a e t → HasTold m e t
acted_here n m d e s t command a sound same here acts =
    let given = acts_gives d e s.seat command a.reply sound.each_has_a_seat acts.event in
    let new : drop (length d.replica.log) e.replica.log ≡ given.new = ap (drop (length d.replica.log)) given.log ∙ drop-append_seam d.replica.log given.new in
    let after : t.told ≡ operation_ids (logged_by s.seat e) =
    acts.told ∙ ap₂ (λ xs ys. xs ++ ys) here.told (ap operation_ids new) ∙ sym (map-append (λ op. op.id) (logged_by s.seat d) given.new) ∙ ap operation_ids (sym given.mine) in
    record {
      seat = (
        acts.answer.same.0 ∙ here.seat.0 ∙ sym same,
        subst (λ k. 0 < k) (sym acts.answer.same.1) here.seat.1,
        subst (λ k. k ≤ e.opened) (sym acts.answer.same.1) (subst (λ k. s.seat ≤ k) (sym (ap (λ (x : Document). x.opened) acts.event.2)) here.seat.2),
      );
      told = after ∙ ap (λ k. operation_ids (logged_by k e)) (sym acts.answer.same.1);
    }

pub read_here : (n : ℕ) (d : Document) (s t : Seat) (query : Query) (a : Answer) → HasTold n d s → AnswersFor d s query a t → HasTold n d t
read_here n d s t query a here answers =
    record {
      seat = (
        answers.answer.same.0 ∙ here.seat.0,
        subst (λ k. 0 < k) (sym answers.answer.same.1) here.seat.1,
        subst (λ k. k ≤ d.opened) (sym answers.answer.same.1) here.seat.2,
      );
      told = answers.told ∙ here.told ∙ ap (λ k. operation_ids (logged_by k d)) (sym answers.answer.same.1);
    }

-- no end is right where no seat was opened
pub none_unopened : (n : ℕ) (d : Document) (ends : List Seat) (refusal : Refusal) → (refusal ≡ NoMemory) ⊎ ((refusal ≡ ListsDiffer) × (AreEndsOf n d ends → ⊥))
    → d.opened ≡ 0 → ends ≡ [] → refusal ≡ NoMemory
none_unopened n d ends refusal (inl memory) unopened none = memory
none_unopened n d ends refusal (inr (differ, wrong)) unopened none = absurd (wrong (subst (AreEndsOf n d) (sym none) (sym unopened)))

-- the end of the one seat, told of what is logged for it, is right
pub one_is_right : (n : ℕ) (d : Document) (ends : List Seat) (end : Seat) (refusal : Refusal) → (refusal ≡ NoMemory) ⊎ ((refusal ≡ ListsDiffer) × (AreEndsOf n d ends → ⊥))
    → d.opened ≤ 1 → ends ≡ end ∷ [] → HasTold n d end → refusal ≡ NoMemory
one_is_right n d ends end refusal (inl memory) few given told = memory
one_is_right n d ends end refusal (inr (differ, wrong)) few given told =
    let first : end.seat ≡ 1 = omega (arith, told.seat.1, told.seat.2, few) in
    let here : IsEndOf n d 1 end = (told.seat.0, first, told.told ∙ ap (λ k. operation_ids (logged_by k d)) first) in
    let all : AreEndsOf n d (end ∷ []) = (here, omega (arith, told.seat.1, told.seat.2, few)) in
    absurd (wrong (subst (AreEndsOf n d) (sym given) all))
