-- Fronts whose names stand apart from their counters.
use Rattle.std.proofs.Common.{◌≡◌, ℕ, ◌+◌, ◌<◌, ◌≤◌, suc, List, [], ◌∷◌, ◌++◌, length, map, filter, take, drop, get_or, Ok, Err, Result, Bool, true, false, ◌&&◌, if◌then◌else◌, Less, Equal, Greater, sym, ap, subst, ◌∙◌, arith, append-nil}
use Rattle.std.specs.List.{zip, list_all}
use Rattle.std.specs.List.Sorted.{IsBinarySearchResult, IsSearchInRange, IsNonDecreasingBy}
use Rattle.std.specs.Ordering.{ordering_index}
use Rattle.std.proofs.lemmas.List.{get_or_default, map-append, take_more}
use Rattle.std.proofs.lemmas.List.Elements.{filter-append}
use Rattle.std.proofs.lemmas.Slice.Zip.{get_or-zip}
use Rattle.lamport_id.specs.Order.{name_cmp}
use Rattle.version_vector.specs.Front.{id_of, is_ascending}
use Rattle.doc_api.specs.Words.{Id}
use Rattle.version_vector.proofs.FrontPairs.{length-pairs, name-at}
use Rattle.list_laws.proofs.Reading.{drop_at}
use Rattle.doc_rules.proofs.OneAnswer.{name_order}
use Rattle.doc_rules.proofs.WholeFront.{rising_from_ascending}
use Rattle.list_laws.specs.Sorted.{IsIndexOf, IsGap}
use Rattle.list_laws.proofs.Rising.{searched}

module _ (names : List (List ℕ)) (counters : List ℕ) (len : length names ≡ length counters) where
  -- names rise where their pairs do
  names_rise : (name : List ℕ) → IsNonDecreasingBy (λ (e : List ℕ × ℕ). ordering_index (name_cmp e.0 name)) (zip names counters)
      → IsNonDecreasingBy (λ (n : List ℕ). ordering_index (name_cmp n name)) names
  names_rise name rise i j d le within =
      let there : j < length counters = omega (arith, len, within) in
      subst (λ (n : List ℕ). ordering_index (name_cmp n name) ≤ ordering_index (name_cmp (get_or names j d) name)) (name-at names counters i (d, 0) len (omega (arith, le, there)))
      (subst (λ (n : List ℕ). ordering_index (name_cmp (get_or (zip names counters) i (d, 0)).0 name) ≤ ordering_index (name_cmp n name)) (name-at names counters j (d, 0) len there)
      (rise i j (d, 0) le (rw (length-pairs names counters len) there)))

  -- a search among the names is one among the pairs
  searched_pairs : (name : List ℕ) (r : Result ℕ ℕ) → IsSearchInRange r (length names) → IsBinarySearchResult (λ (n : List ℕ). name_cmp n name) names r
      → IsBinarySearchResult (λ (e : List ℕ × ℕ). name_cmp e.0 name) (zip names counters) r
  searched_pairs name (Ok i) bound found =
      λ d. subst (λ (n : List ℕ). name_cmp n name ≡ Equal) (sym (name-at names counters i d len (omega (arith, len, bound)))) (found d.0)
  searched_pairs name (Err i) bound found =
      λ rise.
      let point = found (names_rise name rise) in (
        (λ k d from below.
            subst (λ (n : List ℕ). name_cmp n name ≡ Less) (sym (name-at names counters k d len (omega (arith, len, bound, below)))) (point.0 k d.0 from below)),
        (λ k d from below.
            let here : k < length counters = omega (arith, length-pairs names counters len, below) in
            subst (λ (n : List ℕ). name_cmp n name ≡ Greater) (sym (name-at names counters k d len here)) (point.1 k d.0 from (omega (arith, len, here)))),
      )

  bound_pairs : (r : Result ℕ ℕ) → IsSearchInRange r (length names) → IsSearchInRange r (length (zip names counters))
  bound_pairs (Ok i) bound = omega (arith, length-pairs names counters len, len, bound)
  bound_pairs (Err i) bound = omega (arith, length-pairs names counters len, len, bound)

  module _ (ascends : is_ascending (zip names counters) ≡ true) (name : List ℕ) where
    pub place_found : (i : ℕ) → i < length names → IsBinarySearchResult (λ (n : List ℕ). name_cmp n name) names (Ok i)
        → IsIndexOf name_cmp (λ (e : List ℕ × ℕ). e.0) (zip names counters) name i
    place_found i bound found =
        searched name_order (λ (e : List ℕ × ℕ). e.0) (zip names counters) name (Ok i) (rising_from_ascending (zip names counters) ascends)
        (bound_pairs (Ok i) bound) (searched_pairs name (Ok i) bound found)

    pub gap_found : (i : ℕ) → i ≤ length names → IsBinarySearchResult (λ (n : List ℕ). name_cmp n name) names (Err i)
        → IsGap name_cmp (λ (e : List ℕ × ℕ). e.0) (zip names counters) name i
    gap_found i bound found =
        searched name_order (λ (e : List ℕ × ℕ). e.0) (zip names counters) name (Err i) (rising_from_ascending (zip names counters) ascends)
        (bound_pairs (Err i) bound) (searched_pairs name (Err i) bound found)

  -- the pairs from a place on, of which the first has the name that stands there
  pub drop_pair : (k : ℕ) (name : List ℕ) → k < length names → name ≡ get_or names k name
      → drop k (zip names counters) ≡ (name, get_or counters k 0) ∷ drop (suc k) (zip names counters)
  drop_pair k name within named =
      let counter : ℕ = get_or counters k 0 in
      let inside : k < length counters = omega (arith, len, within) in
      drop_at (zip names counters) k (name, counter) (omega (arith, length-pairs names counters len, inside))
      ((λ i. (named i, get_or_default counters k 0 counter inside i)) ∙ sym (get_or-zip names counters k (name, counter) within inside))

-- one more pair of a front, and what a test says of the rest
pub all_from : (test : List ℕ × ℕ → Bool) (front : List (List ℕ × ℕ)) (at : ℕ) (e : List ℕ × ℕ) → at < length front → e ≡ get_or front at e
    → list_all test (drop at front) ≡ (test e && list_all test (drop (suc at) front))
all_from test front at e within is = ap (list_all test) (drop_at front at e within is)

-- the ids of one more pair that pass a test
module _ (test : Id → Bool) (front : List (List ℕ × ℕ)) (at : ℕ) (id : Id) (within : at < length front) (is : (d : List ℕ × ℕ) → id ≡ id_of (get_or front at d)) where
  more_filtered : filter test (map id_of (take (at + 1) front)) ≡ filter test (map id_of (take at front)) ++ filter test (id ∷ [])
  more_filtered =
      ap (λ ids. filter test (map id_of ids)) (take_more front at ([], 0) within)
      ∙ ap (filter test) (map-append id_of (take at front) (get_or front at ([], 0) ∷ []))
      ∙ filter-append test (map id_of (take at front)) (id_of (get_or front at ([], 0)) ∷ [])
      ∙ ap (λ (i : Id). filter test (map id_of (take at front)) ++ filter test (i ∷ [])) (sym (is ([], 0)))

  pub one_passes : test id ≡ true → filter test (map id_of (take (at + 1) front)) ≡ filter test (map id_of (take at front)) ++ id ∷ []
  one_passes passes = more_filtered ∙ ap (λ (b : Bool). filter test (map id_of (take at front)) ++ (if b then id ∷ [] else [])) passes

  pub one_falls : test id ≡ false → filter test (map id_of (take (at + 1) front)) ≡ filter test (map id_of (take at front))
  one_falls falls =
      more_filtered ∙ ap (λ (b : Bool). filter test (map id_of (take at front)) ++ (if b then id ∷ [] else [])) falls
      ∙ append-nil (filter test (map id_of (take at front)))
