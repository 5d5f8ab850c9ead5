-- Lemmas on what a writer of std has taken.
use Rattle.std.proofs.Common.{◌≡◌, ℕ, ◌<◌, Bool, true, false, ◌||◌, List, [], ◌∷◌, ◌++◌, length, take, Option, Some, None, refl, sym, ap, subst, arith, length-append, true≢false}
use Rattle.std.specs.Io.KnownBytes.{Appends, Keeps}
use Rattle.line_feed.specs.Cut.{LosesLast, taken}

pub right_false : (a b : Bool) → (a || b) ≡ false → b ≡ false
right_false true b e = cc
right_false false b e = e

some_bytes : (xs bytes : List ℕ) → 0 < length bytes → [] ≡ xs ++ bytes → ⊥
some_bytes xs bytes some e = absurd (omega (arith, some, ap length e, length-append xs bytes))

-- the writer took some bytes
grows : (a : Option (List ℕ)) (ys bytes : List ℕ) (took : Bool) → 0 < length bytes → Appends a (Some ys) bytes
    → Appends (taken a took false) (taken (Some ys) true false) bytes
grows None ys bytes took some appends = tt
grows (Some xs) [] bytes took some appends = absurd (some_bytes xs bytes some appends)
grows (Some xs) (y ∷ ys) bytes false some appends = appends
grows (Some []) (y ∷ ys) bytes true some appends = tt
grows (Some (x ∷ xs)) (y ∷ ys) bytes true some appends = appends

pub taken-grows : (a b : Option (List ℕ)) (bytes : List ℕ) (took failed : Bool) → failed ≡ false → 0 < length bytes → Appends a b bytes
    → Appends (taken a took failed) (taken b true failed) bytes
taken-grows None b bytes took failed works some appends = tt
taken-grows (Some xs) None bytes took failed works some appends = absurd appends
taken-grows (Some xs) (Some ys) bytes took true works some appends = cc
taken-grows (Some xs) (Some ys) bytes took false works some appends = grows (Some xs) ys bytes took some appends

loses : (x : ℕ) (xs : List ℕ) → LosesLast (Some (x ∷ xs)) (Some (take (length xs) (x ∷ xs)))
loses x [] = (x, refl)
loses x (y ∷ ys) = let (last, is) = loses y ys in (last, ap (λ l. x ∷ l) is)

-- its flush failed, after it took some
pub taken-loses : (a b : Option (List ℕ)) (took failed : Bool) → took ≡ true → failed ≡ false → Keeps a b
    → LosesLast (taken a took failed) (taken b took true)
taken-loses None b took failed is works keeps = tt
taken-loses (Some xs) None took failed is works keeps = absurd keeps
taken-loses (Some xs) (Some ys) false failed is works keeps = cc
taken-loses (Some xs) (Some ys) true true is works keeps = cc
taken-loses (Some []) (Some ys) true false is works keeps = tt
taken-loses (Some (x ∷ xs)) (Some ys) true false is works keeps =
    subst (λ l. LosesLast (Some (x ∷ xs)) (taken (Some l) true true)) (sym keeps) (loses x xs)

-- no flush failed
pub taken-whole : (a : Option (List ℕ)) (took wrote failed : Bool) → (wrote || failed) ≡ false → Keeps (taken a took failed) a
taken-whole None took wrote failed works = tt
taken-whole (Some xs) false wrote failed works = refl
taken-whole (Some []) true wrote failed works = tt
taken-whole (Some (x ∷ xs)) true wrote true works = absurd (true≢false (right_false wrote true works))
taken-whole (Some (x ∷ xs)) true wrote false works = refl
