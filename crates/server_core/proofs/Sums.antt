-- The totals of documents, one after another.
use Rattle.std.proofs.Common.{◌≡◌, ℕ, zero, suc, ◌+◌, List, [], ◌∷◌, ◌++◌, length, map, Option, None, ◌⊎◌, refl, sym, ap, subst, ◌∙◌, arith}
use Rattle.std.specs.List.{flat_map}
use Rattle.share_ledger.specs.Begun.{Origin}
use Rattle.doc_api.specs.Words.{Id}
use Rattle.doc_rules.specs.Seats.{Seat}
use Rattle.locked_doc.specs.Locked.{Locked}
use Rattle.locked_doc.specs.Followed.{Followed}
use Rattle.locked_doc.specs.declared.gather.Totals.{Totals}
use Rattle.server_core.specs.Sums.{AreBooksFrom, AreLeft, AreTotals, AreTotalsFrom, Differs, ends_behind, first_end, ids_read, later_ends}

pub behind-next : (k : ℕ) (sessions : List (List (Option Seat))) → map later_ends (ends_behind k sessions) ≡ ends_behind (suc k) sessions
behind-next zero sessions = refl
behind-next (suc k) sessions = behind-next k (map later_ends sessions)

-- of none
pub none_total : (origin : ℕ → Origin) (n : ℕ) (sessions : List (List (Option Seat))) (books : List Followed) (totals : List Totals) → books ≡ [] → totals ≡ []
    → AreTotalsFrom origin n sessions (ids_read books) totals
none_total origin n sessions books totals no_books no_totals =
    subst (AreTotalsFrom origin n sessions (ids_read books)) (sym no_totals) (subst (λ bs. AreTotalsFrom origin n sessions (ids_read bs) []) (sym no_books) tt)

-- and nothing is left of nothing
pub none_left : (totals : List Totals) (taken : Option (List Seat)) (left : List (List (Option Seat))) → totals ≡ [] → taken ≡ None → left ≡ []
    → AreLeft (ends_behind (length totals) []) taken left
none_left totals taken left no_totals none nothing =
    subst (λ ends. AreLeft (ends_behind (length totals) []) ends left) (sym none) (nothing ∙ sym (ap (λ ts. ends_behind (length ts) []) no_totals))

-- one more behind them
pub one_more : (origin : ℕ → Origin) (n : ℕ) (sessions : List (List (Option Seat))) (read : List (List Id)) (totals : List Totals) (ids : List Id) (t : Totals)
    → AreTotalsFrom origin n sessions read totals → AreTotals origin (n + length totals) (flat_map first_end (ends_behind (length totals) sessions)) ids t
    → AreTotalsFrom origin n sessions (read ++ ids ∷ []) (totals ++ t ∷ [])
one_more origin n sessions [] [] ids t are next = let here : n + 0 ≡ n = omega arith in (subst (λ k. AreTotals origin k (flat_map first_end sessions) ids t) here next, tt)
one_more origin n sessions [] (x ∷ totals) ids t are next = absurd are
one_more origin n sessions (r ∷ read) [] ids t are next = absurd are
one_more origin n sessions (r ∷ read) (x ∷ totals) ids t are next =
    let there : n + length (x ∷ totals) ≡ suc n + length totals = omega arith in (
      are.0,
      one_more origin (suc n) (map later_ends sessions) read totals ids t are.1
          (subst (λ k. AreTotals origin k (flat_map first_end (ends_behind (length totals) (map later_ends sessions))) ids t) there next),
    )

-- and one more book
pub book_more : (n : ℕ) (books : List Followed) (book : Followed) → AreBooksFrom n books → book.number ≡ n + length books → AreBooksFrom n (books ++ book ∷ [])
book_more n [] book are next = let here : n + 0 ≡ n = omega arith in (next ∙ here, tt)
book_more n (b ∷ books) book are next =
    let there : n + length (b ∷ books) ≡ suc n + length books = omega arith in (are.0, book_more (suc n) books book are.1 (next ∙ there))

-- a document that differs, at the index behind those that were gathered
pub differs_there : {P Q : Type 0} {number n : ℕ} {sessions behind : List (List (Option Seat))} (d : Locked) (ends : List Seat) → number ≡ n → sessions ≡ behind
    → P ⊎ (Q × Differs number (flat_map first_end sessions) d ends) → P ⊎ (Q × Differs n (flat_map first_end behind) d ends)
differs_there {P} {Q} {number} {n} {sessions} {behind} d ends there is differs =
    subst (λ k. P ⊎ (Q × Differs k (flat_map first_end behind) d ends)) there (subst (λ xs. P ⊎ (Q × Differs number (flat_map first_end xs) d ends)) is differs)
