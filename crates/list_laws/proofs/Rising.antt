-- Laws of lists whose keys rise: what a binary search finds in them, what an insertion and a filter keep, and
-- that their members tell them.
use Rattle.std.proofs.Common.{◌≡◌, ◌≢◌, ℕ, ◌+◌, ◌<◌, inl, inr, zero, suc, List, [], ◌∷◌, ◌++◌, length, take, drop, get_or, map, filter, Bool, true, false, if◌then◌else◌, Contains, refl, sym, subst, ◌∙◌, arith, Result, Ok, Err, Ordering, Less, Greater, length-drop}
use Rattle.std.specs.Prelude.{MatchResult, insert}
use Rattle.std.specs.Ordering.{ordering_index}
use Rattle.std.specs.List.Sorted.{IsNonDecreasingBy, IsBinarySearchResult, IsSearchInRange}
use Rattle.std.proofs.lemmas.List.{take-append-drop, get_or-take, get_or-drop, length-take}
use Rattle.std.proofs.lemmas.List.Elements.{Contains-get_or, Contains-append_left, Contains-append_right, Contains-append_cases}
use Rattle.std.proofs.lemmas.List.Sorted.{searchable_from_sorted}
use Rattle.list_laws.specs.Order.{EachOnce}
use Rattle.list_laws.proofs.IdOrder.{IsIdOrder, irreflexive, asymmetric}
use Rattle.list_laws.proofs.Members.{Contains-nil, Contains-here, Contains-there, Contains-cases, Contains-parts, map-from}
use Rattle.list_laws.proofs.Filters.{filter-Contains}
use Rattle.list_laws.specs.Sorted.{IsRising, IsIndexOf, IsGap}
use Rattle.list_laws.proofs.Keys.{less≢equal, less_back, not_less_back}

module _ {X K : Type 0} {cmp : K → K → Ordering} (o : IsIdOrder cmp) (key : X → K) where
  pub rising_index : (xs : List X) (i j : ℕ) (d : X) → IsRising cmp key xs → i < j → j < length xs → cmp (key (get_or xs i d)) (key (get_or xs j d)) ≡ Less
  rising_index [] i j d r less within = absurd (omega arith)
  rising_index (x ∷ xs) zero zero d r less within = absurd (omega arith)
  rising_index (x ∷ xs) zero (suc j) d r less within = r.0 (get_or xs j d) (Contains-get_or xs j d (omega arith))
  rising_index (x ∷ xs) (suc i) zero d r less within = absurd (omega arith)
  rising_index (x ∷ xs) (suc i) (suc j) d r less within = rising_index xs i j d r.1 (omega arith) (omega arith)

  non_decreasing : (xs : List X) (k : K) → IsRising cmp key xs → IsNonDecreasingBy (λ y. ordering_index (cmp (key y) k)) xs
  non_decreasing xs k r =
      searchable_from_sorted o.total key xs k
      (λ i d low high. not_less_back o (key (get_or xs i d)) (key (get_or xs (i + 1) d)) (rising_index xs i (i + 1) d r (omega arith) high))

  -- what a binary search finds
  pub searched : (xs : List X) (k : K) (r : Result ℕ ℕ) → IsRising cmp key xs → IsSearchInRange r (length xs)
      → IsBinarySearchResult (λ y. cmp (key y) k) xs r → MatchResult r (IsIndexOf cmp key xs k) (IsGap cmp key xs k)
  searched xs k (Ok i) rising bound found = record { within = bound; has_key = λ d. o.exact (key (get_or xs i d)) k (found d) }
  searched xs k (Err i) rising bound found =
      let parts = found (non_decreasing xs k rising) in
      record {
        within = bound;
        smaller_before = λ y c.
            let below : c.0 < i = omega (arith, length-take i xs, c.1) in
            subst (λ z. cmp (key z) k ≡ Less) (sym (get_or-take i xs c.0 y below) ∙ c.2) (parts.0 c.0 y (omega arith) below);
        greater_behind = λ y c.
            let within : i + c.0 < length xs = omega (arith, length-drop i xs, c.1) in
            less_back o (key y) k
            (subst (λ z. cmp (key z) k ≡ Greater) (sym (get_or-drop i xs c.0 y) ∙ c.2) (parts.1 (i + c.0) y (omega arith) within));
      }

  -- a key that would go in between stands nowhere
  pub gap_none : (xs : List X) (k : K) (i : ℕ) → IsGap cmp key xs k i → (y : X) → Contains xs y → key y ≢ k
  gap_none xs k i gap y c same =
      elim (Contains-parts i xs c) [
        | inl before ↦ less≢equal o (key y) k (gap.smaller_before y before) same
        | inr behind ↦ less≢equal o k (key y) (gap.greater_behind y behind) (sym same)
      ]

  between : (us vs : List X) (x : X) → IsRising cmp key (us ++ vs) → ((y : X) → Contains us y → cmp (key y) (key x) ≡ Less)
      → ((y : X) → Contains vs y → cmp (key x) (key y) ≡ Less) → IsRising cmp key (us ++ x ∷ vs)
  between [] vs x rising below above = (above, rising)
  between (a ∷ us) vs x rising below above = (first, between us vs x rising.1 (λ y c. below y (Contains-there a us c)) above)
    where
      first : (y : X) → Contains (us ++ x ∷ vs) y → cmp (key a) (key y) ≡ Less
      first y c =
          elim (Contains-append_cases us (x ∷ vs) y c) [
            | inl left ↦ rising.0 y (Contains-append_left us vs y left)
            | inr right ↦ elim (Contains-cases x vs right) [
              | inl here ↦ subst (λ z. cmp (key a) (key z) ≡ Less) here (below a (Contains-here us refl))
              | inr behind ↦ rising.0 y (Contains-append_right us vs y behind)
            ]
          ]

  -- an insertion in its gap
  pub IsRising-insert : (xs : List X) (i : ℕ) (x : X) → IsRising cmp key xs → IsGap cmp key xs (key x) i → IsRising cmp key (insert xs i x)
  IsRising-insert xs i x rising gap =
      between (take i xs) (drop i xs) x (subst (IsRising cmp key) (sym (take-append-drop i xs)) rising) gap.smaller_before gap.greater_behind

  -- without one element
  pub IsRising-split : (us vs : List X) (x : X) → IsRising cmp key (us ++ x ∷ vs)
      → ((y : X) → Contains us y → cmp (key y) (key x) ≡ Less) × ((y : X) → Contains vs y → cmp (key x) (key y) ≡ Less) × IsRising cmp key (us ++ vs)
  IsRising-split [] vs x r = ((λ y c. absurd (Contains-nil c)), r.0, r.1)
  IsRising-split (u ∷ us) vs x r =
      let later = IsRising-split us vs x r.1 in (
        (λ y c.
            elim (Contains-cases u us c) [
              | inl here ↦ subst (λ z. cmp (key z) (key x) ≡ Less) here (r.0 x (Contains-append_right us (x ∷ vs) x (Contains-here vs refl)))
              | inr there ↦ later.0 y there
            ]),
        later.1,
        (
          (λ y c.
              elim (Contains-append_cases us vs y c) [
                | inl left ↦ r.0 y (Contains-append_left us (x ∷ vs) y left)
                | inr right ↦ r.0 y (Contains-append_right us (x ∷ vs) y (Contains-there x vs right))
              ]),
          later.2,
        ),
      )

  -- no key stands twice
  pub keys_once : (xs : List X) → IsRising cmp key xs → EachOnce (map key xs)
  keys_once [] r = tt
  keys_once (x ∷ xs) r = ((λ c. let y = map-from key xs c in less≢equal o (key x) (key y.0) (r.0 y.0 y.1) (sym y.2)), keys_once xs r.1)

  -- of two rising lists with the same members the first elements are one
  first_same : (x y : X) (xs ys : List X) → IsRising cmp key (x ∷ xs) → IsRising cmp key (y ∷ ys)
      → Contains (y ∷ ys) x → Contains (x ∷ xs) y → x ≡ y
  first_same x y xs ys rx ry a b =
      elim (Contains-cases y ys a) [
        | inl e ↦ sym e
        | inr behind ↦ elim (Contains-cases x xs b) [ inl e ↦ e | inr behind' ↦ absurd (asymmetric o (ry.0 x behind) (rx.0 y behind')) ]
      ]

  -- what stands behind the first is not the first
  behind_same : (x y : X) (xs ys : List X) → x ≡ y → IsRising cmp key (x ∷ xs) → ((z : X) → Contains (x ∷ xs) z → Contains (y ∷ ys) z)
      → (z : X) → Contains xs z → Contains ys z
  behind_same x y xs ys e rx to z c =
      elim (Contains-cases y ys (to z (Contains-there x xs c))) [
        | inl is ↦ absurd (irreflexive o (subst (λ w. cmp (key x) (key w) ≡ Less) (sym is ∙ sym e) (rx.0 z c)))
        | inr behind ↦ behind
      ]

  pub rising_same : (xs ys : List X) → IsRising cmp key xs → IsRising cmp key ys → ((z : X) → Contains xs z → Contains ys z)
      → ((z : X) → Contains ys z → Contains xs z) → xs ≡ ys
  rising_same [] [] rx ry to from = refl
  rising_same [] (y ∷ ys) rx ry to from = absurd (Contains-nil (from y (Contains-here ys refl)))
  rising_same (x ∷ xs) [] rx ry to from = absurd (Contains-nil (to x (Contains-here xs refl)))
  rising_same (x ∷ xs) (y ∷ ys) rx ry to from =
      let e : x ≡ y = first_same x y xs ys rx ry (to x (Contains-here xs refl)) (from y (Contains-here ys refl)) in
      let rest : xs ≡ ys = rising_same xs ys rx.1 ry.1 (behind_same x y xs ys e rx to) (behind_same y x ys xs (sym e) ry from) in
      λ i. e i ∷ rest i

-- the elements that pass a test
module _ {X K : Type 0} (cmp : K → K → Ordering) (key : X → K) (test : X → Bool) where
  pub rising-filter : (xs : List X) → IsRising cmp key xs → IsRising cmp key (filter test xs)
  rising-filter [] h = tt
  rising-filter (x ∷ xs) h = by (test x) (rising-filter xs h.1)
    where
      by : (b : Bool) → IsRising cmp key (filter test xs) → IsRising cmp key (if b then x ∷ filter test xs else filter test xs)
      by true ih = ((λ y c. h.0 y (filter-Contains test xs c).0), ih)
      by false ih = ih
