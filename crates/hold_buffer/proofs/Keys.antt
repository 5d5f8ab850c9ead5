-- What is noted in the rows, after each change.
use Rattle.std.proofs.Common.{◌≡◌, ◌≢◌, ◌<◌, ◌++◌, ◌∷◌, ℕ, zero, suc, List, [], length, set, Bool, true, false, not, ◌==◌, filter, Contains, refl, sym, ap, subst, ◌∙◌, arith}
use Rattle.std.proofs.lemmas.Bool.Decides.{nat_tests}
use Rattle.std.proofs.lemmas.List.{get_or-set_same, get_or-set_other}
use Rattle.list_laws.proofs.Filters.{Contains-filter}
use Rattle.hold_buffer.specs.Waiters.{row_at}

-- another key is not dropped
pub other_kept : (keys : List ℕ) (key k : ℕ) → k ≢ key → Contains keys k → Contains (filter (λ n. not (n == key)) keys) k
other_kept keys key k other c = Contains-filter (λ (n : ℕ). not (n == key)) keys c (differs k key other)
  where
    differs : (a b : ℕ) → a ≢ b → not (a == b) ≡ true
    differs a b ne = grind (arith, nat_tests)

-- a key stays where it was, if it does so in the one row that changes
pub row_kept : (rows new : List (List ℕ)) (at : ℕ) (row : List ℕ) (k : ℕ) → at < length rows → new ≡ set rows at row → (Contains (row_at rows at) k → Contains row k)
    → (n : ℕ) → Contains (row_at rows n) k → Contains (row_at new n) k
row_kept rows new at row k within written kept n c = by (n == at) refl
  where
    same : (a b : ℕ) → (a == b) ≡ true → a ≡ b
    same a b h = grind (arith, nat_tests)

    apart : (a b : ℕ) → (a == b) ≡ false → a ≢ b
    apart a b h = grind (arith, nat_tests)

    by : (b : Bool) → (n == at) ≡ b → Contains (row_at new n) k
    by true e =
        let is = same n at e in
        subst (λ (m : ℕ). Contains (row_at new m) k) (sym is)
        (subst (λ (l : List ℕ). Contains l k) (sym (ap (λ (l : List (List ℕ)). row_at l at) written ∙ get_or-set_same rows at row [] within))
        (kept (subst (λ (m : ℕ). Contains (row_at rows m) k) is c)))
    by false e =
        subst (λ (l : List ℕ). Contains l k) (sym (ap (λ (l : List (List ℕ)). row_at l n) written ∙ get_or-set_other rows at n row [] (apart n at e))) c

-- what was written in a row is there
pub row_written : (rows new : List (List ℕ)) (at : ℕ) (row : List ℕ) → at < length rows → new ≡ set rows at row → row_at new at ≡ row
row_written rows new at row within written = ap (λ (l : List (List ℕ)). row_at l at) written ∙ get_or-set_same rows at row [] within

-- one more row, with no key
pub row_more : (rows : List (List ℕ)) (n : ℕ) → row_at (rows ++ [] ∷ []) n ≡ row_at rows n
row_more [] zero = refl
row_more [] (suc n) = refl
row_more (row ∷ rows) zero = refl
row_more (row ∷ rows) (suc n) = row_more rows n
