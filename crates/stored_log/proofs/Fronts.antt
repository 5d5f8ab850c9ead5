-- Lists that are compared one after another.
use Rattle.std.proofs.Common.{◌≡◌, ◌∙◌, ◌<◌, ◌+◌, ◌∷◌, ◌++◌, ℕ, List, [], length, take, get_or, ap, sym}
use Rattle.std.proofs.Math.Seq.{take-suc}
use native.Mathlib.Numerals.{unary_clauses}

-- one more that is the same
pub front_step : {X : Type 0} (xs ys : List X) (i : ℕ) (x y : X) → i < length xs → i < length ys → get_or xs i x ≡ x → get_or ys i y ≡ y → x ≡ y
    → take i xs ≡ take i ys → take (i + 1) xs ≡ take (i + 1) ys
front_step xs ys i x y in_xs in_ys at_xs at_ys same before =
    simp unary_clauses (take-suc xs i x in_xs ∙ (ap (λ it. take i xs ++ (it ∷ [])) (at_xs ∙ (same ∙ sym at_ys))
    ∙ (ap (λ l. l ++ (get_or ys i y ∷ [])) before ∙ sym (take-suc ys i y in_ys))))
