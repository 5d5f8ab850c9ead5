-- Steps of a loop over a list: what it has made of the items so far, or found among them.
use Rattle.std.proofs.Common.{◌≡◌, ℕ, ◌+◌, ◌<◌, ◌≤◌, Bool, true, false, ◌&&◌, ◌||◌, List, [], ◌∷◌, ◌++◌, length, get_or, map, take, drop, Result, Ok, sym, ap, ◌∙◌}
use Rattle.std.specs.List.{list_any, list_all}
use Rattle.std.proofs.lemmas.List.{map-append, take_more, take_all, at_drop_more, at_drop_all}
use Rattle.json_scalar.specs.Refusal.{UnlessMemory}
use Rattle.json_scalar.specs.declared.refusal.Refusal.{Refusal}

-- a copy that was made is of its value
pub due_copy : {A : Type 0} (r : Result A Refusal) (x y : A) → UnlessMemory r (Ok y) → r ≡ Ok x → x ≡ y
due_copy r x y h is = let due : r ≡ Ok y = h (λ e. cc) in cc

-- one item more is copied
pub take_grown : {A : Type 0} (xs : List A) (i : ℕ) (y : A) (old new : List A) (x : A) → i < length xs → y ≡ get_or xs i y → x ≡ y → old ≡ take i xs
    → new ≡ old ++ x ∷ [] → new ≡ take (i + 1) xs
take_grown xs i y old new x within is due before pushed =
    let item : x ≡ get_or xs i y = due ∙ is in
    pushed ∙ (λ j. before j ++ item j ∷ []) ∙ sym (take_more xs i y within)

-- something is made of one item more
pub map_grown : {A B : Type 0} (f : A → B) (xs : List A) (i : ℕ) (y : A) (old new : List B) (x : B) → i < length xs → y ≡ get_or xs i y → x ≡ f y
    → old ≡ map f (take i xs) → new ≡ old ++ x ∷ [] → new ≡ map f (take (i + 1) xs)
map_grown f xs i y old new x within is due before pushed =
    let item : x ≡ f (get_or xs i y) = due ∙ ap f is in
    pushed ∙ (λ j. before j ++ item j ∷ []) ∙ sym (ap (map f) (take_more xs i y within) ∙ map-append f (take i xs) (get_or xs i y ∷ []))

pub map_done : {A B : Type 0} (f : A → B) (xs : List A) (i : ℕ) (made : List B) → length xs ≤ i → made ≡ map f (take i xs) → made ≡ map f xs
map_done f xs i made past before = before ∙ ap (map f) (take_all i xs past)

-- a test holds of one item more, or does not, or held of all
pub all_more : {A : Type 0} (p : A → Bool) (xs : List A) (i : ℕ) (x : A) → i < length xs → p (get_or xs i x) ≡ true → list_all p (drop i xs) ≡ list_all p xs
    → list_all p (drop (i + 1) xs) ≡ list_all p xs
all_more p xs i x within holds before = sym (at_drop_more (list_all p) xs i x within ∙ ap (λ b. b && list_all p (drop (i + 1) xs)) holds) ∙ before

pub all_fails : {A : Type 0} (p : A → Bool) (xs : List A) (i : ℕ) (x : A) → i < length xs → p (get_or xs i x) ≡ false → list_all p (drop i xs) ≡ list_all p xs
    → false ≡ list_all p xs
all_fails p xs i x within fails before =
    sym (sym before ∙ at_drop_more (list_all p) xs i x within ∙ ap (λ b. b && list_all p (drop (i + 1) xs)) fails)

pub all_done : {A : Type 0} (p : A → Bool) (xs : List A) (i : ℕ) → length xs ≤ i → list_all p (drop i xs) ≡ list_all p xs → true ≡ list_all p xs
all_done p xs i past before = sym (sym before ∙ at_drop_all (list_all p) xs i past)

pub any_more : {A : Type 0} (p : A → Bool) (xs : List A) (i : ℕ) (x : A) → i < length xs → p (get_or xs i x) ≡ false → list_any p (drop i xs) ≡ list_any p xs
    → list_any p (drop (i + 1) xs) ≡ list_any p xs
any_more p xs i x within fails before = sym (at_drop_more (list_any p) xs i x within ∙ ap (λ b. b || list_any p (drop (i + 1) xs)) fails) ∙ before

pub any_holds : {A : Type 0} (p : A → Bool) (xs : List A) (i : ℕ) (x : A) → i < length xs → p (get_or xs i x) ≡ true → list_any p (drop i xs) ≡ list_any p xs
    → true ≡ list_any p xs
any_holds p xs i x within holds before =
    sym (sym before ∙ at_drop_more (list_any p) xs i x within ∙ ap (λ b. b || list_any p (drop (i + 1) xs)) holds)

pub any_done : {A : Type 0} (p : A → Bool) (xs : List A) (i : ℕ) → length xs ≤ i → list_any p (drop i xs) ≡ list_any p xs → false ≡ list_any p xs
any_done p xs i past before = sym (sym before ∙ at_drop_all (list_any p) xs i past)
