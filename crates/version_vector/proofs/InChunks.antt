-- Counters in chunks, all of which but the last are full.
use Rattle.std.proofs.Common.{◌≡◌, ℕ, ◌+◌, ◌-◌, ◌*◌, ◌/◌, ◌%◌, ◌<◌, ◌≤◌, zero, suc, max, true, ◌&&◌, nat_eq, nat_le, List, [], ◌∷◌, ◌++◌, length, length-append, map, get_or, take, drop, refl, sym, ap, ◌∙◌, arith, le-leb, leb-true, eqb-true, eq-eqb, append-nil, append_assoc}
use Rattle.std.specs.List.{concat, list_all, AllZip}
use Rattle.std.specs.Cmp.Lexicographic.{pointwise}
use Rattle.std.proofs.Math.Nat.{div-add-mod, mod-lt}
use Rattle.std.proofs.lemmas.Bool.{and_parts}
use Rattle.std.proofs.lemmas.List.{get_or_append_left, get_or-append_right, length-map, map-append, take-append-drop}
use Rattle.std.proofs.lemmas.List.Folds.{concat-append, list_all-append}
use Rattle.version_vector.specs.Chunks.{are_full, is_full, chunk_len}
use Rattle.version_vector.specs.Front.{greatest}

-- one chunk more, behind full ones
pub are_full-push : (chunks : List (List ℕ)) (chunk : List ℕ) → list_all is_full chunks ≡ true → length chunk ≤ 16 → are_full (chunks ++ chunk ∷ []) ≡ true
are_full-push [] chunk full within = le-leb _ _ within
are_full-push (c ∷ []) chunk full within =
    ap (λ b. b && nat_le (length chunk) chunk_len) (and_parts (is_full c) true full).0 ∙ le-leb _ _ within
are_full-push (c ∷ d ∷ chunks) chunk full within =
    let parts = and_parts (is_full c) (list_all is_full (d ∷ chunks)) full in
    ap (λ b. b && are_full (d ∷ chunks ++ chunk ∷ [])) parts.0 ∙ are_full-push (d ∷ chunks) chunk parts.1 within

-- what is at place r of chunk q
pub record IsAt (chunks : List (List ℕ)) (q r at : ℕ) : Type 0 where
  pub chunk : q < length chunks
  pub place : r < length (get_or chunks q [])
  pub counter : get_or (get_or chunks q []) r 0 ≡ get_or (concat chunks) at 0

is_at : (chunks : List (List ℕ)) (q r at : ℕ) → are_full chunks ≡ true → r < 16 → at ≡ 16 * q + r → at < length (concat chunks) → IsAt chunks q r at
is_at [] q r at full small is within = absurd (omega (arith, within))
is_at (c ∷ []) zero r at full small is within =
    let here : at ≡ r = omega (arith, is) in
    let inside : r < length c = omega (arith, within, here, length-append c []) in
    record { chunk = omega arith; place = inside; counter = rw (here) (sym (get_or_append_left c [] 0 r inside)) }
is_at (c ∷ []) (suc q) r at full small is within =
    absurd (omega (arith, within, is, length-append c [], leb-true _ _ full))
is_at (c ∷ d ∷ chunks) zero r at full small is within =
    let here : at ≡ r = omega (arith, is) in
    let long : length c ≡ 16 = eqb-true _ _ (and_parts (is_full c) (are_full (d ∷ chunks)) full).0 in
    let inside : r < length c = omega (arith, long, small) in
    record { chunk = omega arith; place = inside; counter = rw (here) (sym (get_or_append_left c (concat (d ∷ chunks)) 0 r inside)) }
is_at (c ∷ d ∷ chunks) (suc q) r at full small is within =
    let parts = and_parts (is_full c) (are_full (d ∷ chunks)) full in
    let long : length c ≡ 16 = eqb-true _ _ parts.0 in
    let rest : List ℕ = concat (d ∷ chunks) in
    let next : at - 16 ≡ 16 * q + r = omega (arith, is) in
    let past : 16 ≤ at = omega (arith, is) in
    let behind : at - 16 < length rest = omega (arith, within, past, length-append c rest, long) in
    let there = is_at (d ∷ chunks) q r (at - 16) parts.1 small next behind in
    record { chunk = omega (arith, there.chunk); place = there.place; counter = there.counter ∙ sym (get_or-append_right c rest 16 at 0 long past) }

pub is_at_quotient : (chunks : List (List ℕ)) (at : ℕ) → are_full chunks ≡ true → at < length (concat chunks) → IsAt chunks (at / 16) (at % 16) at
is_at_quotient chunks at full within =
    let less : 0 < 16 = omega arith in
    is_at chunks (at / 16) (at % 16) at full (mod-lt at less) (sym (div-add-mod at 16)) within

-- the greatest of two lists joined
pub greatest-append : (xs ys : List ℕ) → greatest (xs ++ ys) ≡ max (greatest xs) (greatest ys)
greatest-append [] ys = omega arith
greatest-append (x ∷ xs) ys = omega (arith, greatest-append xs ys)

pub greatest_step : (most chunk rest new : ℕ) → new ≡ max most chunk → max new rest ≡ max most (max chunk rest)
greatest_step most chunk rest new is = omega (arith, is)

-- lists compared item by item
pub pairs_more : (xs ys : List ℕ) (i : ℕ) → i < length xs → i < length ys
    → pointwise nat_eq (drop i xs) (drop i ys) ≡ (nat_eq (get_or xs i 0) (get_or ys i 0) && pointwise nat_eq (drop (suc i) xs) (drop (suc i) ys))
pairs_more [] ys i within there = absurd (omega (arith, within))
pairs_more (x ∷ xs) [] i within there = absurd (omega (arith, there))
pairs_more (x ∷ xs) (y ∷ ys) zero within there = refl
pairs_more (x ∷ xs) (y ∷ ys) (suc i) within there = pairs_more xs ys i (omega (arith, within)) (omega (arith, there))

-- items of a map, first and then the rest
pub map_cut : {A B : Type 0} (f : A → B) (n : ℕ) (xs : List A) → map f (take n xs) ++ map f (drop n xs) ≡ map f xs
map_cut f n xs = sym (map-append f (take n xs) (drop n xs)) ∙ ap (map f) (take-append-drop n xs)

-- what clones keep
pub clones_keep : {A B : Type 0} (f : A → B) (xs ys : List A) → AllZip (λ x y. f y ≡ f x) xs ys → map f ys ≡ map f xs
clones_keep f [] [] h = refl
clones_keep f [] (y ∷ ys) h = absurd h
clones_keep f (x ∷ xs) [] h = absurd h
clones_keep f (x ∷ xs) (y ∷ ys) h = (λ i. h.0 i ∷ clones_keep f xs ys h.1 i)

-- one chunk more is cut off
module _ {A : Type 0} (f : A → ℕ) (old new : List (List ℕ)) (rest : List A) where
  pub joined_more : (n : ℕ) (all : List ℕ) → new ≡ old ++ map f (take n rest) ∷ [] → concat old ++ map f rest ≡ all → concat new ++ map f (drop n rest) ≡ all
  joined_more n all is joined =
      ap (λ chunks. concat chunks ++ map f (drop n rest)) is
      ∙ ap (λ counters. counters ++ map f (drop n rest)) (concat-append old (map f (take n rest) ∷ []) ∙ ap (λ counters. concat old ++ counters) (append-nil (map f (take n rest))))
      ∙ append_assoc (concat old) (map f (take n rest)) (map f (drop n rest))
      ∙ ap (λ counters. concat old ++ counters) (map_cut f n rest) ∙ joined

  pub joined_all : (all : List ℕ) → new ≡ old ++ map f rest ∷ [] → concat old ++ map f rest ≡ all → concat new ≡ all
  joined_all all is joined =
      ap concat is ∙ concat-append old (map f rest ∷ []) ∙ ap (λ counters. concat old ++ counters) (append-nil (map f rest)) ∙ joined

  pub full_more : (chunk : List A) → new ≡ old ++ map f chunk ∷ [] → list_all is_full old ≡ true → length chunk ≡ 16 → list_all is_full new ≡ true
  full_more chunk is full long =
      let length_is : length (map f chunk) ≡ 16 = length-map chunk f ∙ long in
      ap (list_all is_full) is ∙ list_all-append is_full old (map f chunk ∷ [])
      ∙ (λ i. full i && (eq-eqb _ _ length_is i && true))

  pub full_all : new ≡ old ++ map f rest ∷ [] → list_all is_full old ≡ true → length rest ≤ 16 → are_full new ≡ true
  full_all is full within = ap are_full is ∙ are_full-push old (map f rest) full (omega (arith, length-map rest f, within))
