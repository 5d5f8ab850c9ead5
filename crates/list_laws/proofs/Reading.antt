-- A list up to an element that is read by its index, and from it on.
use Rattle.std.proofs.Common.{◌≡◌, ℕ, suc, ◌+◌, ◌<◌, List, [], ◌∷◌, ◌++◌, length, get_or, take, drop, drop-cons, sym, ap, ◌∙◌}
use Rattle.std.proofs.lemmas.List.{take_more, drop_more}
use lib.Seq.{take-suc}

module _ {X : Type 0} (xs : List X) (i : ℕ) (x : X) (within : i < length xs) (is : x ≡ get_or xs i x) where
  -- one more element of those taken so far
  pub take_read : take (i + 1) xs ≡ take i xs ++ x ∷ []
  take_read = take_more xs i x within ∙ ap (λ y. take i xs ++ y ∷ []) (sym is)

  -- and one less of those left
  pub drop_read : drop i xs ≡ x ∷ drop (i + 1) xs
  drop_read = drop_more xs i x within ∙ ap (λ y. y ∷ drop (i + 1) xs) (sym is)

  -- the same by the successor
  pub take_at : take (suc i) xs ≡ take i xs ++ x ∷ []
  take_at = take-suc xs i x within ∙ ap (λ y. take i xs ++ y ∷ []) (sym is)

  pub drop_at : drop i xs ≡ x ∷ drop (suc i) xs
  drop_at = drop-cons xs i x within ∙ ap (λ y. y ∷ drop (suc i) xs) (sym is)
