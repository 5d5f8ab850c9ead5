-- Names with zeros behind them: what they are without, and their order.
use Rattle.std.proofs.Common.{◌≡◌, ℕ, ◌+◌, ◌<◌, ◌≤◌, ◌==◌, ◌++◌, zero, suc, true, not, ◌&&◌, nat_eq, nat_le, List, [], ◌∷◌, length, replicate, refl, sym, ap, ◌∙◌, cond, ◌-◌, arith, Less, Equal, Greater}
use Rattle.std.specs.List.{list_all, take_while}
use Rattle.std.specs.Bool.{one_answer}
use Rattle.std.specs.Ordering.{nat_cmp, ordering_then}
use Rattle.std.specs.Cmp.{nat_cmp_is}
use Rattle.std.specs.Cmp.Lexicographic.{slice_cmp}
use Rattle.std.proofs.lemmas.Bool.{and_parts}
use Rattle.std.proofs.lemmas.Bool.Decides.{nat_tests}
use Rattle.std.proofs.lemmas.List.Sums.{take_while-cons}
use lib.Pointwise.{pointwise, bytes_decides}
use Rattle.lamport_id.specs.Limits.{longest_name}
use Rattle.lamport_id.specs.Name.{is_name_byte, is_name, padded, unpadded}

byte_is_text : (b : ℕ) → is_name_byte b ≡ true → not (b == 0) ≡ true
byte_is_text b h = grind (arith, nat_tests)

byte_is_positive : (b : ℕ) → is_name_byte b ≡ true → 0 < b
byte_is_positive b h = grind (arith, nat_tests)

pub unpadded-zeros : (a : List ℕ) (n : ℕ) → list_all is_name_byte a ≡ true → take_while (λ b. not (b == 0)) (a ++ replicate n 0) ≡ a
unpadded-zeros [] zero h = refl
unpadded-zeros [] (suc n) h = refl
unpadded-zeros (x ∷ a) n h =
    let parts = and_parts (is_name_byte x) (list_all is_name_byte a) h in
    take_while-cons (λ b. not (b == 0)) x (a ++ replicate n 0)
    ∙ (λ i. cond (byte_is_text x parts.0 i) (x ∷ unpadded-zeros a n parts.1 i) [])

-- zeros are as zeros
same_zeros : (n : ℕ) → slice_cmp nat_cmp (replicate n 0) (replicate n 0) ≡ Equal
same_zeros zero = refl
same_zeros (suc n) = same_zeros n

pub cmp-zeros : (a b : List ℕ) (m n : ℕ) → list_all is_name_byte a ≡ true → list_all is_name_byte b ≡ true → length a + m ≡ length b + n
    → slice_cmp nat_cmp (a ++ replicate m 0) (b ++ replicate n 0) ≡ slice_cmp nat_cmp a b
cmp-zeros [] [] m n h k same =
    let equal : n ≡ m = omega (arith, same) in
    ap (λ o. slice_cmp nat_cmp (replicate m 0) (replicate o 0)) equal ∙ same_zeros m
cmp-zeros [] (y ∷ b) zero n h k same = absurd (omega arith)
cmp-zeros [] (y ∷ b) (suc m) n h k same =
    let first = nat_cmp_is 0 y Less (byte_is_positive y (and_parts (is_name_byte y) (list_all is_name_byte b) k).0) in
    (λ i. ordering_then (sym first i) (slice_cmp nat_cmp (replicate m 0) (b ++ replicate n 0)))
cmp-zeros (x ∷ a) [] m zero h k same = absurd (omega arith)
cmp-zeros (x ∷ a) [] m (suc n) h k same =
    let first = nat_cmp_is x 0 Greater (byte_is_positive x (and_parts (is_name_byte x) (list_all is_name_byte a) h).0) in
    (λ i. ordering_then (sym first i) (slice_cmp nat_cmp (a ++ replicate m 0) (replicate n 0)))
cmp-zeros (x ∷ a) (y ∷ b) m n h k same =
    ap (ordering_then (nat_cmp x y))
    (cmp-zeros a b m n (and_parts (is_name_byte x) (list_all is_name_byte a) h).1 (and_parts (is_name_byte y) (list_all is_name_byte b) k).1 (omega arith))

letters : (name : List ℕ) → is_name name ≡ true → list_all is_name_byte name ≡ true
letters name h = (and_parts (nat_le 1 (length name) && nat_le (length name) longest_name) (list_all is_name_byte name) h).1

within : (name : List ℕ) → is_name name ≡ true → length name ≤ longest_name
within name h =
    let size = (and_parts (nat_le 1 (length name) && nat_le (length name) longest_name) (list_all is_name_byte name) h).0 in
    let most = (and_parts (nat_le 1 (length name)) (nat_le (length name) longest_name) size).1 in
    grind (arith, nat_tests)

-- a name is what it was before the zeros
pub unpadded-padded : (name : List ℕ) → is_name name ≡ true → unpadded (padded name) ≡ name
unpadded-padded name h = unpadded-zeros name (longest_name - length name) (letters name h)

-- names stand to each other as they do with their zeros
pub cmp-padded : (a b : List ℕ) → is_name a ≡ true → is_name b ≡ true → slice_cmp nat_cmp (padded a) (padded b) ≡ slice_cmp nat_cmp a b
cmp-padded a b h k =
    cmp-zeros a b (longest_name - length a) (longest_name - length b) (letters a h) (letters b k) (omega (arith, within a h, within b k))

-- and so are they the same
pub equal-padded : (a b : List ℕ) → is_name a ≡ true → is_name b ≡ true → pointwise nat_eq (padded a) (padded b) ≡ pointwise nat_eq a b
equal-padded a b h k =
    let names = bytes_decides a b in
    one_answer (pointwise nat_eq (padded a) (padded b)) (pointwise nat_eq a b) (bytes_decides (padded a) (padded b)) (
      (λ same. ap padded (names.0 same)),
      (λ is. names.1 (sym (unpadded-padded a h) ∙ ap unpadded is ∙ unpadded-padded b k)),
    )
