-- A test that is called at the one element of a list.
use Rattle.std.proofs.Common.{◌≡◌, List, [], ◌∷◌, Bool, true, false, if◌then◌else◌, length, get_or, arith, refl}
use Rattle.std.specs.List.Retain.{IsFiltered}

-- it keeps the element, or none
pub filtered_one : {X P : Type 0} (R : P → X → Bool → P → Type 0) (p : P) (xs : List X) (b : Bool) (q : P) (x : X)
    → length xs ≡ 1 → R p (get_or xs 0 x) b q → IsFiltered R p xs (if b then xs else [])
filtered_one R p (x ∷ []) true q d one told = (true ∷ [], q, refl, (q, told, refl), refl)
filtered_one R p (x ∷ []) false q d one told = (false ∷ [], q, refl, (q, told, refl), refl)
filtered_one R p [] b q d one told = absurd (omega (arith, one))
filtered_one R p (x ∷ y ∷ xs) b q d one told = absurd (omega (arith, one))
