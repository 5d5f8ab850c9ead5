-- What a sink covers once a line is answered.
use Rattle.std.proofs.Common.{ℕ, List, sym, subst}
use Rattle.session_core.specs.declared.open_document.OpenDocument as code
use Rattle.session_core.specs.OpenDocuments.{AreSeated}
use Rattle.session_core.specs.Owed.{AreCovered, StaysNoted}

-- where what is owed counts as noted, a sink that covered it before covers it still
pub still_covered : {A : Type 0} (owes : A → ℕ → ℕ) (is_noted : A → ℕ → Type 0) (covers : ℕ → ℕ → Type 0) (old new : A)
    → AreCovered covers (owes old) → StaysNoted owes is_noted old new → (number : ℕ) → is_noted new number → covers number (owes new number)
still_covered owes is_noted covers old new all stays number noted = subst (covers number) (sym (stays number noted).1) (all number)

-- all seats stay
pub seated-all : {A S R D : Type 0} (has_seat : A → ℕ → S → Type 0) (old new : A) (os : List (code.OpenDocument A S R D))
    → ((number : ℕ) (seat : S) → has_seat old number seat → has_seat new number seat) → AreSeated has_seat old os → AreSeated has_seat new os
seated-all has_seat old new os stay seats = record { seated = λ i o at. stay o.number o.seat (seats.seated i o at); apart = seats.apart }
