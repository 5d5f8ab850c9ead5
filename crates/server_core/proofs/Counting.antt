-- What is due of documents where one of them changes, and what is owed of them.
use Rattle.std.proofs.Common.{◌≡◌, ◌≢◌, ◌⊎◌, inl, inr, ℕ, ◌+◌, ◌<◌, ◌≤◌, ◌==◌, Bool, true, false, List, length, get_or, Some, refl, sym, ap, subst, ◌∙◌, arith}
use Rattle.std.specs.Prelude.{slice_get, slice_set}
use Rattle.std.proofs.Math.Dec.{ltb}
use Rattle.std.proofs.lemmas.Bool.{eqb-true, eqb-false, ltb-true, ltb-false}
use Rattle.std.proofs.lemmas.Option.{slice_get_within}
use Rattle.session_core.proofs.Lists.{got_or}
use Rattle.session_core.proofs.Owners.{get-at, get-set_same, get-set_other}
use Rattle.server_core.specs.declared.due.Due.{Due}
use Rattle.server_core.specs.declared.progress.Pace.{Pace}
use Rattle.server_core.specs.Pacing.{IsDue, IsPaid}

-- as much is due where one document's due is no less
pub set_stays : (dues : List Due) (i : ℕ) (old new : Due) → slice_get dues i ≡ Some old → new.document ≡ old.document → old.count ≤ new.count
    → (document count : ℕ) → IsDue dues document count → IsDue (slice_set dues i new) document count
set_stays dues i old new at same more document count (inl none) = inl none
set_stays dues i old new at same more document count (inr (due, there, of, few)) = by (document == i) refl
  where
    by : (b : Bool) → (document == i) ≡ b → IsDue (slice_set dues i new) document count
    by true is =
        let here : document ≡ i = eqb-true document i is in
        let one : Some due ≡ Some old = sym there ∙ ap (slice_get dues) here ∙ at in
        let due_is : due ≡ old = cc in
        inr (
          new,
          ap (slice_get (slice_set dues i new)) here ∙ get-set_same dues i new (slice_get_within dues i old at),
          same ∙ ap (λ d. d.document) (sym due_is) ∙ of,
          omega (arith, more, few, ap (λ d. d.count) due_is),
        )
    by false is = inr (due, get-set_other dues i document new (eqb-false document i is) ∙ there, of, few)

-- one more is paid
pub paid_more : (pace : Pace) (dues : List Due) (i : ℕ) (new : Due) → i < length dues → IsPaid pace new
    → ((k : ℕ) (due : Due) → k < i → slice_get dues k ≡ Some due → IsPaid pace due)
    → (k : ℕ) (due : Due) → k < i + 1 → slice_get (slice_set dues i new) k ≡ Some due → IsPaid pace due
paid_more pace dues i new within paid before k due less at = by (k == i) refl
  where
    by : (b : Bool) → (k == i) ≡ b → IsPaid pace due
    by true is =
        let here : k ≡ i = eqb-true k i is in
        let one : Some new ≡ Some due = sym (get-set_same dues i new within) ∙ ap (slice_get (slice_set dues i new)) (sym here) ∙ at in
        let same : new ≡ due = cc in
        subst (IsPaid pace) same paid
    by false is =
        let other : k ≢ i = eqb-false k i is in
        before k due (omega (arith, other, less)) (sym (get-set_other dues i k new other) ∙ at)

-- what is there isn't the default
pub any_default : {X : Type 0} (xs : List X) (i : ℕ) (d e : X) → i < length xs → get_or xs i d ≡ get_or xs i e
any_default xs i d e within = sym (got_or xs i (get_or xs i d) e (get-at xs i (get_or xs i d) d refl within))

-- each number is before this one, or not
pub either : (number to n : ℕ) → to ≤ number → (n < number) ⊎ (to ≤ n)
either number to n done = by (ltb n number) refl
  where
    by : (b : Bool) → ltb n number ≡ b → (n < number) ⊎ (to ≤ n)
    by true is = inl (ltb-true n number is)
    by false is = inr (omega (arith, done, ltb-false n number is))

-- one more document's count is covered
pub covers_more : (covers after : ℕ → ℕ → Type 0) (counts : List ℕ) (number to : ℕ) → ((n count : ℕ) → covers n count → after n count)
    → after number (get_or counts number 0) → ((n : ℕ) → (n < number) ⊎ (to ≤ n) → covers n (get_or counts n 0))
    → (n : ℕ) → (n < number + 1) ⊎ (to ≤ n) → after n (get_or counts n 0)
covers_more covers after counts number to stays here before n (inr behind) = stays n (get_or counts n 0) (before n (inr behind))
covers_more covers after counts number to stays here before n (inl less) = by (n == number) refl
  where
    by : (b : Bool) → (n == number) ≡ b → after n (get_or counts n 0)
    by true is = subst (λ k. after k (get_or counts k 0)) (sym (eqb-true n number is)) here
    by false is =
        let other : n ≢ number = eqb-false n number is in
        stays n (get_or counts n 0) (before n (inl (omega (arith, other, less))))
