-- What depends on the marks of a path alone.
use Rattle.std.proofs.Common.{◌≡◌, ◌<◌, ◌≤◌, ◌+◌, ℕ, suc, List, [], ◌∷◌, ◌++◌, length, Bool, true, false, ◌&&◌, nat_eq, nat_le, if◌then◌else◌, Option, Some, refl, sym, ap, subst, arith}
use Rattle.std.proofs.lemmas.Bool.{le-leb, lt-leb}
use Rattle.list_order.specs.declared.slots.SlotNumber.{SlotNumber}
use Rattle.list_order.specs.declared.marks.Mark.{Mark}
use Rattle.list_order.specs.Marks.{mark_at, count_where, is_marked_in, from_block, start_of, IsInBlockOrder}
use Rattle.list_order.proofs.Counting.{Along, along-map, IsSameMark, IsSameBlock, not_other}

module _ (marks new : List Mark) where
  pub count-same : (test : Mark → Bool) (path : List SlotNumber) → Along (IsSameMark marks new) path → count_where test new path ≡ count_where test marks path
  count-same test [] s = refl
  count-same test (n ∷ path) s =
      let c = count-same test path s.1 in
      λ i. if test (s.0 i) then suc (c i) else c i

  pub blocks-same : (path : List SlotNumber) → Along (IsSameMark marks new) path → Along (IsSameBlock marks new) path
  blocks-same path s = along-map (λ n e. ap (λ m. m.block) e) path s

  pub from-same : (k : ℕ) (path : List SlotNumber) → Along (IsSameBlock marks new) path → from_block k new path ≡ from_block k marks path
  from-same k [] s = refl
  from-same k (n ∷ path) s =
      let c = from-same k path s.1 in
      λ i. if nat_le k (s.0 i) then n ∷ path else c i

  pub rising-same : (low : ℕ) (path : List SlotNumber) → Along (IsSameBlock marks new) path → IsInBlockOrder low marks path → IsInBlockOrder low new path
  rising-same low [] s h = tt
  rising-same low (n ∷ path) s h =
      (omega (arith, s.0, h.0), subst (λ b. IsInBlockOrder b new path) (sym s.0) (rising-same (mark_at marks n).block path s.1 h.1))

module _ (marks : List Mark) where
  pub count-append : (test : Mark → Bool) (xs ys : List SlotNumber) → count_where test marks (xs ++ ys) ≡ count_where test marks xs + count_where test marks ys
  count-append test [] ys = let e : 0 + count_where test marks ys ≡ count_where test marks ys = omega arith in sym e
  count-append test (x ∷ xs) ys = go (test (mark_at marks x)) (count-append test xs ys)
    where
      go : (b : Bool) → count_where test marks (xs ++ ys) ≡ count_where test marks xs + count_where test marks ys
          → (if b then suc (count_where test marks (xs ++ ys)) else count_where test marks (xs ++ ys))
          ≡ (if b then suc (count_where test marks xs) else count_where test marks xs) + count_where test marks ys
      go true ih = omega (arith, ih)
      go false ih = ih

  pub count_within : (test : Mark → Bool) (path : List SlotNumber) → count_where test marks path ≤ length path
  count_within test [] = omega arith
  count_within test (n ∷ path) = go (test (mark_at marks n)) (count_within test path)
    where
      go : (b : Bool) → count_where test marks path ≤ length path → (if b then suc (count_where test marks path) else count_where test marks path) ≤ suc (length path)
      go true ih = omega arith
      go false ih = omega arith

  -- what is in earlier blocks alone
  pub from-none : (k : ℕ) (path : List SlotNumber) → Along (λ n. (mark_at marks n).block < k) path → from_block k marks path ≡ []
  from-none k [] a = refl
  from-none k (n ∷ path) a = rw (lt-leb k (mark_at marks n).block a.0) (from-none k path a.1)

  pub count-none : (k : ℕ) (path : List SlotNumber) → Along (λ n. (mark_at marks n).block < k) path → count_where (is_marked_in k) marks path ≡ 0
  count-none k [] a = refl
  count-none k (n ∷ path) a = rw (no (mark_at marks n).is_present) (count-none k path a.1)
    where
      no : (p : Bool) → (p && nat_eq (mark_at marks n).block k) ≡ false
      no p = not_other k (mark_at marks n).block (λ e. omega (arith, a.0, e)) p

  -- one more slot at the end
  pub start-append : (k : ℕ) (at : Option SlotNumber) (n : SlotNumber) (path : List SlotNumber) → k ≤ (mark_at marks n).block
      → start_of at (from_block k marks (path ++ n ∷ [])) ≡ start_of (Some n) (from_block k marks path)
  start-append k at n [] le = rw (le-leb k (mark_at marks n).block le) refl
  start-append k at n (m ∷ path) le = go (nat_le k (mark_at marks m).block) (start-append k at n path le)
    where
      go : (b : Bool) → start_of at (from_block k marks (path ++ n ∷ [])) ≡ start_of (Some n) (from_block k marks path)
          → start_of at (if b then m ∷ path ++ n ∷ [] else from_block k marks (path ++ n ∷ [])) ≡ start_of (Some n) (if b then m ∷ path else from_block k marks path)
      go true ih = refl
      go false ih = ih

  pub rising-append : (low : ℕ) (path : List SlotNumber) (n : SlotNumber) → low ≤ (mark_at marks n).block → Along (λ m. (mark_at marks m).block ≤ (mark_at marks n).block) path
      → IsInBlockOrder low marks path → IsInBlockOrder low marks (path ++ n ∷ [])
  rising-append low [] n le a h = (le, tt)
  rising-append low (m ∷ path) n le a h = (h.0, rising-append (mark_at marks m).block path n a.0 a.1 h.1)

  pub along-snoc : (P : SlotNumber → Type 0) (path : List SlotNumber) (n : SlotNumber) → Along P path → P n → Along P (path ++ n ∷ [])
  along-snoc P [] n a p = (p, tt)
  along-snoc P (m ∷ path) n a p = (a.0, along-snoc P path n a.1 p)
