-- Rows of texts, and rows that are put into a table.
use Rattle.std.proofs.Common.{ap, ◌+◌, ◌++◌, ◌≡◌, List, [], ◌∷◌, Bool, true, false, cond, ◌||◌, ◌⊎◌, Ok, Err, Result, refl, sym, subst, ℕ, zero, suc, ◌<◌, length, map, take, drop, arith, ℤ, inl, inr, Ordering, Less, Equal, Greater}
use Rattle.std.specs.List.Sorted.{IsPermutation}
use Rattle.std.specs.List.{swap}
use Rattle.std.specs.Ordering.{is_eq, match_ordering}
use Rattle.sqlite_value.specs.Order.{Row, value_cmp}
use Rattle.sqlite.specs.declared.types.Value.{Value}
use Rattle.sqlite.specs.declared.types.Value.TheVariants.{Null, Int}
use Rattle.sqlite_trees.specs.Tree.{rowid, put_row}
use Rattle.sqlite_rules.specs.Edit.{is_taken}
use Rattle.std.proofs.lemmas.List.Sorted.{IsPermutation-refl, IsPermutation-sym, IsPermutation-trans, IsPermutation-cons, IsPermutation-middle, IsPermutation-keeps}
use Rattle.sqlite.specs.Ops.{unary}
use Rattle.sqlite.specs.Cast.{cast}
use Rattle.sqlite.specs.Kind.TheVariants.{Integer}
use Rattle.sqlite.specs.Table.{Table}
use Rattle.stored_rows.specs.Tables.{meta, entry}
use Rattle.stored_rows.specs.Content.{meta_tree, entry_tree, entry_row, rows_from}

abbrev pub meta_table : Table
meta_table = record meta { tree = meta_tree }

abbrev pub entry_table : Table
entry_table = record entry { tree = entry_tree }

-- a row whose rowid is free joins the others
pub put_row_moves : (new : Row) (rows : List Row) → is_taken rows new ≡ false → IsPermutation (new ∷ rows) (put_row new rows)
put_row_moves new [] free = IsPermutation-refl (new ∷ [])
put_row_moves new (r ∷ rows) free = go (value_cmp (rowid r) (rowid new)) free (put_row_moves new rows)
  where
    go : (o : Ordering) → (is_eq o || is_taken rows new) ≡ false → (is_taken rows new ≡ false → IsPermutation (new ∷ rows) (put_row new rows))
        → IsPermutation (new ∷ r ∷ rows) (match_ordering o (r ∷ put_row new rows) (new ∷ rows) (new ∷ r ∷ rows))
    go Less free later = IsPermutation-trans _ _ _ (IsPermutation-sym _ _ (IsPermutation-middle (r ∷ []) new rows)) (IsPermutation-cons r _ _ (later free))
    go Equal free later = absurd (let e = free in cc)
    go Greater free later = IsPermutation-refl (new ∷ r ∷ rows)

either : (b : Bool) (x : Value) → cond b x x ≡ x
either true x = refl
either false x = refl

pub cast_null : cast Integer Null ≡ Null
unfolding unary
cast_null = either _ Null

pub cast_int : (n : ℤ) → cast Integer (Int n) ≡ Int n
unfolding unary
cast_int n = either _ (Int n)

-- a part that gave a value did not stop on the way
pub went : {B E R : Type 0} {b : B} {Stops : E → Type 0} → ((stop : E) × Stops stop × (Ok b ≡ Err stop)) ⊎ R → R
went (inl stopped) = absurd (let e = stopped.2 in cc)
went (inr on) = on

pub same_value : {B E : Type 0} {a b : B} → ◌≡◌ {A = Result B E} (Ok a) (Ok b) → a ≡ b
same_value e = cc

-- ---- lists of two

swapped : {X : Type 0} (p q : X) (i j : ℕ) → i < 2 → j < 2 → (swap (p ∷ q ∷ []) i j ≡ p ∷ q ∷ []) ⊎ (swap (p ∷ q ∷ []) i j ≡ q ∷ p ∷ [])
swapped p q zero zero below under = inl refl
swapped p q zero (suc zero) below under = inr refl
swapped p q (suc zero) zero below under = inr refl
swapped p q (suc zero) (suc zero) below under = inl refl
swapped p q (suc (suc i)) j below under = absurd (omega arith)
swapped p q zero (suc (suc j)) below under = absurd (omega arith)
swapped p q (suc zero) (suc (suc j)) below under = absurd (omega arith)

abbrev IsEither : {X : Type 0} → X → X → List X → Type 0
IsEither p q ys = (ys ≡ p ∷ q ∷ []) ⊎ (ys ≡ q ∷ p ∷ [])

still : {X : Type 0} (p q : X) (l : List X) (i j : ℕ) → i < length l → j < length l → IsEither p q l → IsEither p q (swap l i j)
still p q l i j below under (inl is) = subst (λ z. IsEither p q (swap z i j)) (sym is) (swapped p q i j (rw is at below) (rw is at under))
still p q l i j below under (inr is) =
    subst (λ z. IsEither p q (swap z i j)) (sym is) (elim (swapped q p i j (rw is at below) (rw is at under)) [ inl same ↦ inr same | inr other ↦ inl other ])

-- a list of two has two orders
pub two_orders : {X : Type 0} (p q : X) (ys : List X) → IsPermutation (p ∷ q ∷ []) ys → (ys ≡ p ∷ q ∷ []) ⊎ (ys ≡ q ∷ p ∷ [])
two_orders p q ys h = IsPermutation-keeps (p ∷ q ∷ []) (IsEither p q) (inl refl) (still p q) ys h

pub two_mapped : {A B : Type 0} (f : A → B) (xs : List A) (p q : B) → map f xs ≡ p ∷ q ∷ [] → (x : A) × (y : A) × (xs ≡ x ∷ y ∷ []) × (f x ≡ p) × (f y ≡ q)
two_mapped f [] p q h = absurd cc
two_mapped f (x ∷ []) p q h = absurd cc
two_mapped f (x ∷ y ∷ []) p q h = (x, y, refl, cc, cc)
two_mapped f (x ∷ y ∷ z ∷ more) p q h = absurd cc

-- the rows of the first texts stand before those of the rest
pub rows_from-append : (doc : List ℕ) (place : ℕ) (texts more : List (List ℕ)) → rows_from doc place (texts ++ more) ≡ rows_from doc place texts ++ rows_from doc (place + length texts) more
rows_from-append doc place [] more = let e : place + 0 ≡ place = omega arith in rw e refl
rows_from-append doc place (t ∷ texts) more =
    let e : place + suc (length texts) ≡ place + 1 + length texts = omega arith in ap (λ rows. entry_row doc place t ∷ rows) (rw e (rows_from-append doc (place + 1) texts more))

pub length-rows_from : (doc : List ℕ) (place : ℕ) (texts : List (List ℕ)) → length (rows_from doc place texts) ≡ length texts
length-rows_from doc place [] = refl
length-rows_from doc place (t ∷ texts) = ap suc (length-rows_from doc (place + 1) texts)

pub rows_from-take : (doc : List ℕ) (n place : ℕ) (texts : List (List ℕ)) → take n (rows_from doc place texts) ≡ rows_from doc place (take n texts)
rows_from-take doc zero place texts = refl
rows_from-take doc (suc n) place [] = refl
rows_from-take doc (suc n) place (t ∷ texts) = ap (λ rows. entry_row doc place t ∷ rows) (rows_from-take doc n (place + 1) texts)

pub rows_from-drop : (doc : List ℕ) (n place : ℕ) (texts : List (List ℕ)) → drop n (rows_from doc place texts) ≡ rows_from doc (place + n) (drop n texts)
rows_from-drop doc zero place texts = let e : place + 0 ≡ place = omega arith in rw e refl
rows_from-drop doc (suc n) place [] = refl
rows_from-drop doc (suc n) place (t ∷ texts) = let e : place + suc n ≡ place + 1 + n = omega arith in rw e (rows_from-drop doc n (place + 1) texts)
