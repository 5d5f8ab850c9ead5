-- The pairs of a front, whose names stand apart from their counters.
use Rattle.std.proofs.Common.{◌≡◌, ℕ, ◌<◌, zero, suc, max, Bool, true, false, ◌&&◌, nat_eq, List, [], ◌∷◌, length, map, get_or, refl, sym, ap, subst, ◌∙◌, arith}
use Rattle.std.specs.List.{zip}
use Rattle.std.specs.Cmp.Lexicographic.{pointwise}
use Rattle.std.specs.Ordering.{is_lt}
use Rattle.std.specs.List.Sorted.{IsPartitionedBy}
use Rattle.lamport_id.specs.Order.{name_cmp}
use Rattle.std.specs.Str.{bytes_eq}
use Rattle.std.proofs.lemmas.Slice.Eq.{slice_eq-Decides, bytes_eq-Decides}
use Rattle.std.proofs.lemmas.Slice.Zip.{get_or-zip}
use Rattle.version_vector.specs.Front.{front_eq, greatest, max_counter}

pub length-pairs : (names : List (List ℕ)) (counters : List ℕ) → length names ≡ length counters → length (zip names counters) ≡ length counters
length-pairs [] [] h = refl
length-pairs [] (c ∷ counters) h = absurd (omega arith)
length-pairs (n ∷ names) [] h = absurd (omega arith)
length-pairs (n ∷ names) (c ∷ counters) h = ap suc (length-pairs names counters (omega arith))

pub greatest-pairs : (names : List (List ℕ)) (counters : List ℕ) → length names ≡ length counters → max_counter (zip names counters) ≡ greatest counters
greatest-pairs [] [] h = refl
greatest-pairs [] (c ∷ counters) h = absurd (omega arith)
greatest-pairs (n ∷ names) [] h = absurd (omega arith)
greatest-pairs (n ∷ names) (c ∷ counters) h = ap (max c) (greatest-pairs names counters (omega arith))

-- pairs taken apart and put together again
pub zip-parts : (pairs : List (List ℕ × ℕ)) → zip (map (λ (e : List ℕ × ℕ). e.0) pairs) (map (λ (e : List ℕ × ℕ). e.1) pairs) ≡ pairs
zip-parts [] = refl
zip-parts (e ∷ pairs) = ap (λ rest. e ∷ rest) (zip-parts pairs)

pub length-firsts : (pairs : List (List ℕ × ℕ)) → length (map (λ (e : List ℕ × ℕ). e.0) pairs) ≡ length (map (λ (e : List ℕ × ℕ). e.1) pairs)
length-firsts [] = refl
length-firsts (e ∷ pairs) = ap suc (length-firsts pairs)

regroup : (a b c d : Bool) → ((a && c) && (b && d)) ≡ ((a && b) && (c && d))
regroup true b true d = refl
regroup true true false d = refl
regroup true false false d = refl
regroup false b c d = refl

-- two fronts are the same where their names are and their counters
pub eq-pairs : (names others : List (List ℕ)) (counters more : List ℕ) → length names ≡ length counters → length others ≡ length more
    → (pointwise bytes_eq names others && pointwise nat_eq counters more) ≡ front_eq (zip names counters) (zip others more)
eq-pairs [] [] [] [] h k = refl
eq-pairs [] [] (c ∷ counters) more h k = absurd (omega arith)
eq-pairs [] [] [] (d ∷ more) h k = absurd (omega arith)
eq-pairs [] (o ∷ others) [] (d ∷ more) h k = refl
eq-pairs [] (o ∷ others) (c ∷ counters) more h k = absurd (omega arith)
eq-pairs [] (o ∷ others) counters [] h k = absurd (omega arith)
eq-pairs (n ∷ names) others [] more h k = absurd (omega arith)
eq-pairs (n ∷ names) [] (c ∷ counters) (d ∷ more) h k = absurd (omega arith)
eq-pairs (n ∷ names) [] (c ∷ counters) [] h k = refl
eq-pairs (n ∷ names) (o ∷ others) (c ∷ counters) [] h k = absurd (omega arith)
eq-pairs (n ∷ names) (o ∷ others) (c ∷ counters) (d ∷ more) h k =
    regroup (bytes_eq n o) (nat_eq c d) (pointwise bytes_eq names others) (pointwise nat_eq counters more)
    ∙ ap (λ rest. (bytes_eq n o && nat_eq c d) && rest) (eq-pairs names others counters more (omega arith) (omega arith))

-- names that are found equal are the same
pub same_names : (names others : List (List ℕ)) → pointwise bytes_eq names others ≡ true → others ≡ names
same_names names others h = sym ((slice_eq-Decides bytes_eq-Decides names others true (sym h)).0 refl)

-- the name of a pair
pub name-at : (names : List (List ℕ)) (counters : List ℕ) (k : ℕ) (d : List ℕ × ℕ) → length names ≡ length counters → k < length counters
    → (get_or (zip names counters) k d).0 ≡ get_or names k d.0
name-at names counters k d h inside = ap (λ (e : List ℕ × ℕ). e.0) (get_or-zip names counters k d (omega (arith, h, inside)) inside)

-- where the pairs with a lesser name come first, the lesser names do
pub names_first : (names : List (List ℕ)) (counters : List ℕ) (name : List ℕ) → length names ≡ length counters
    → IsPartitionedBy (λ (e : List ℕ × ℕ). is_lt (name_cmp e.0 name)) (zip names counters) → IsPartitionedBy (λ (n : List ℕ). is_lt (name_cmp n name)) names
names_first names counters name h pairs i j d le within less =
    let inside : j < length counters = omega (arith, h, within) in
    let whole : j < length (zip names counters) = rw (length-pairs names counters h) inside in
    subst (λ (n : List ℕ). is_lt (name_cmp n name) ≡ true) (name-at names counters i (d, 0) h (omega (arith, le, inside)))
    (pairs i j (d, 0) le whole (subst (λ (n : List ℕ). is_lt (name_cmp n name) ≡ true) (sym (name-at names counters j (d, 0) h inside)) less))

-- a pair, by its name and its counter
pub pair-at : (names : List (List ℕ)) (counters : List ℕ) (k : ℕ) (d e : List ℕ × ℕ) → length names ≡ length counters → k < length counters
    → get_or (zip names counters) k d ≡ get_or (zip names counters) k e
pair-at [] counters k d e h inside = absurd (omega (arith, h, inside))
pair-at (n ∷ names) [] k d e h inside = absurd (omega arith)
pair-at (n ∷ names) (c ∷ counters) zero d e h inside = refl
pair-at (n ∷ names) (c ∷ counters) (suc k) d e h inside = pair-at names counters k d e (omega (arith, h)) (omega (arith, inside))
