-- Counts, blocks and presence along a path.
use Rattle.std.proofs.Common.{◌≡◌, ◌≢◌, ◌<◌, ◌≤◌, ◌+◌, ◌-◌, ℕ, zero, suc, List, [], ◌∷◌, ◌++◌, length, Bool, true, false, ◌&&◌, nat_eq, nat_le, eqb, if◌then◌else◌, Option, Some, None, slice_get, drop, refl, sym, ap, ◌∙◌, subst, true≢false, arith}
use Rattle.std.proofs.lemmas.Bool.{eqb-true, eq-eqb, leb-true, leb-false}
use Rattle.std.proofs.lemmas.Bool.Decides.{nat_tests}
use Rattle.std.proofs.Math.Dec.{leb-zero}
use Rattle.lamport_id.specs.declared.id.Id.{Id}
use Rattle.list_order.specs.declared.slots.Slot.{Slot}
use Rattle.list_order.specs.declared.slots.SlotNumber.{SlotNumber}
use Rattle.list_order.specs.declared.marks.Mark.{Mark}
use Rattle.list_order.specs.declared.marks.MarkBlock.{MarkBlock}
use Rattle.list_order.specs.Slots.{slot_at, IsPath, slots_from, LinksEnd}
use Rattle.list_order.specs.Marks.{mark_at, count_where, is_marked_in, from_block, start_of, IsInBlockOrder, present_along, bit, block_at, IsCounted}
pub use Rattle.list_order.specs.Marks.{Along}
use Rattle.std.specs.Option.{ForSome}
use Rattle.list_order.proofs.Paths.{path_from-path, walk_from_path, walk-Some, length-path_from}
use Rattle.list_order.proofs.Scanning.{IsStep}

-- one that is at most the last, and isn't it
pub less_of : (k len : ℕ) → eqb k len ≡ false → k < suc len → k < len
less_of k len e h = grind (arith, nat_tests)

pub along : {P : SlotNumber → Type 0} → ((n : SlotNumber) → P n) → (path : List SlotNumber) → Along P path
along f [] = tt
along f (n ∷ path) = (f n, along f path)

pub along-map : {P Q : SlotNumber → Type 0} → ((n : SlotNumber) → P n → Q n) → (path : List SlotNumber) → Along P path → Along Q path
along-map f [] a = tt
along-map f (n ∷ path) a = (f n a.0, along-map f path a.1)

pub along-both : {P Q R : SlotNumber → Type 0} → ((n : SlotNumber) → P n → Q n → R n) → (path : List SlotNumber) → Along P path → Along Q path → Along R path
along-both f [] a b = tt
along-both f (n ∷ path) a b = (f n a.0 b.0, along-both f path a.1 b.1)

pub along-append : (P : SlotNumber → Type 0) (xs ys : List SlotNumber) → Along P (xs ++ ys) → Along P xs × Along P ys
along-append P [] ys a = (tt, a)
along-append P (x ∷ xs) ys a = let r = along-append P xs ys a.1 in ((a.0, r.0), r.1)

-- a slot is marked as before
abbrev pub IsSameMark : List Mark → List Mark → SlotNumber → Type 0
IsSameMark marks new n = mark_at new n ≡ mark_at marks n

-- a slot is in the same block
abbrev pub IsSameBlock : List Mark → List Mark → SlotNumber → Type 0
IsSameBlock marks new n = (mark_at new n).block ≡ (mark_at marks n).block

-- what is in another block isn't counted
pub not_other : (k b : ℕ) → b ≢ k → (p : Bool) → (p && nat_eq b k) ≡ false
not_other k b other false = refl
not_other k b other true = go (nat_eq b k) refl
  where
    go : (e : Bool) → nat_eq b k ≡ e → nat_eq b k ≡ false
    go true e = absurd (other (eqb-true b k e))
    go false e = e

module _ (marks : List Mark) where
  pub from-zero : (path : List SlotNumber) → from_block 0 marks path ≡ path
  from-zero [] = refl
  from-zero (n ∷ path) = rw (leb-zero (mark_at marks n).block) refl

  -- what rises from a later block on has none of an earlier
  pub count-later : (k low : ℕ) (path : List SlotNumber) → k < low → IsInBlockOrder low marks path → count_where (is_marked_in k) marks path ≡ 0
  count-later k low [] less h = refl
  count-later k low (n ∷ path) less h =
      rw (not_other k (mark_at marks n).block (λ e. omega (arith, h.0, e)) (mark_at marks n).is_present) (count-later k (mark_at marks n).block path (omega (arith, h.0)) h.1)

  rising-lower : (low other : ℕ) (path : List SlotNumber) → other ≤ low → IsInBlockOrder low marks path → IsInBlockOrder other marks path
  rising-lower low other [] le h = tt
  rising-lower low other (n ∷ path) le h = (omega (arith, h.0), h.1)

  pub rising-from : (k low : ℕ) (path : List SlotNumber) → IsInBlockOrder low marks path → IsInBlockOrder k marks (from_block k marks path)
  rising-from k low [] h = tt
  rising-from k low (n ∷ path) h = go (nat_le k (mark_at marks n).block) refl (rising-from k (mark_at marks n).block path h.1)
    where
      go : (b : Bool) → nat_le k (mark_at marks n).block ≡ b → IsInBlockOrder k marks (from_block k marks path) → IsInBlockOrder k marks (if b then n ∷ path else from_block k marks path)
      go true e ih = (leb-true k (mark_at marks n).block e, h.1)
      go false e ih = ih

  pub from-from : (k : ℕ) (path : List SlotNumber) → from_block (suc k) marks (from_block k marks path) ≡ from_block (suc k) marks path
  from-from k [] = refl
  from-from k (n ∷ path) = go (nat_le k (mark_at marks n).block) refl (nat_le (suc k) (mark_at marks n).block) refl (from-from k path)
    where
      go : (b : Bool) → nat_le k (mark_at marks n).block ≡ b → (c : Bool) → nat_le (suc k) (mark_at marks n).block ≡ c
          → from_block (suc k) marks (from_block k marks path) ≡ from_block (suc k) marks path
          → from_block (suc k) marks (if b then n ∷ path else from_block k marks path) ≡ (if c then n ∷ path else from_block (suc k) marks path)
      go true e c f ih = rw f refl
      go false e true f ih = absurd (omega (arith, leb-false k (mark_at marks n).block e, leb-true (suc k) (mark_at marks n).block f))
      go false e false f ih = ih

  pub count-from : (k : ℕ) (path : List SlotNumber) → count_where (is_marked_in k) marks (from_block k marks path) ≡ count_where (is_marked_in k) marks path
  count-from k [] = refl
  count-from k (n ∷ path) = go (nat_le k (mark_at marks n).block) refl (nat_eq (mark_at marks n).block k) refl (mark_at marks n).is_present (count-from k path)
    where
      go : (b : Bool) → nat_le k (mark_at marks n).block ≡ b → (c : Bool) → nat_eq (mark_at marks n).block k ≡ c → (p : Bool)
          → count_where (is_marked_in k) marks (from_block k marks path) ≡ count_where (is_marked_in k) marks path
          → count_where (is_marked_in k) marks (if b then n ∷ path else from_block k marks path)
          ≡ (if (mark_at marks n).is_present && c then suc (count_where (is_marked_in k) marks path) else count_where (is_marked_in k) marks path)
      go true e c f p ih = rw f refl
      go false e true f p ih = absurd (omega (arith, leb-false k (mark_at marks n).block e, eqb-true (mark_at marks n).block k f))
      go false e false f p ih = ih ∙ no (mark_at marks n).is_present
        where
          no : (p : Bool) → count_where (is_marked_in k) marks path ≡ (if p && false then suc (count_where (is_marked_in k) marks path) else count_where (is_marked_in k) marks path)
          no true = refl
          no false = refl

  -- behind a block stand the present ids that are not counted in it
  skip : (slots : List Slot) (k low : ℕ) (path : List SlotNumber) → k ≤ low → IsInBlockOrder low marks path
      → present_along slots marks (from_block (suc k) marks path) ≡ drop (count_where (is_marked_in k) marks path) (present_along slots marks path)
  skip slots k low [] le h = refl
  skip slots k low (n ∷ path) le h = go (nat_le (suc k) (mark_at marks n).block) refl (skip slots k (mark_at marks n).block path (omega (arith, h.0)) h.1)
    where
      go : (c : Bool) → nat_le (suc k) (mark_at marks n).block ≡ c
          → present_along slots marks (from_block (suc k) marks path) ≡ drop (count_where (is_marked_in k) marks path) (present_along slots marks path)
          → present_along slots marks (if c then n ∷ path else from_block (suc k) marks path)
          ≡ drop (count_where (is_marked_in k) marks (n ∷ path)) (present_along slots marks (n ∷ path))
      go true f ih =
          let none : count_where (is_marked_in k) marks (n ∷ path) ≡ 0 =
          count-later k (mark_at marks n).block (n ∷ path) (omega (arith, leb-true (suc k) (mark_at marks n).block f)) (omega arith, h.1) in
          ap (λ m. drop m (present_along slots marks (n ∷ path))) (sym none)
      go false f ih = by (mark_at marks n).is_present (nat_eq (mark_at marks n).block k) refl ih
        where
          by : (p : Bool) (e : Bool) → nat_eq (mark_at marks n).block k ≡ e
              → present_along slots marks (from_block (suc k) marks path) ≡ drop (count_where (is_marked_in k) marks path) (present_along slots marks path)
              → present_along slots marks (from_block (suc k) marks path)
              ≡ drop (if p && e then suc (count_where (is_marked_in k) marks path) else count_where (is_marked_in k) marks path)
              (if p then (slot_at slots n).id ∷ present_along slots marks path else present_along slots marks path)
          by true true e ih = ih
          by false e f ih = ih
          by true false e ih = absurd (true≢false (sym (eq-eqb (mark_at marks n).block k (omega (arith, h.0, leb-false (suc k) (mark_at marks n).block f))) ∙ e))

  pub length-from : (k : ℕ) (path : List SlotNumber) → length (from_block k marks path) ≤ length path
  length-from k [] = omega arith
  length-from k (n ∷ path) = go (nat_le k (mark_at marks n).block) (length-from k path)
    where
      go : (b : Bool) → length (from_block k marks path) ≤ length path → length (if b then n ∷ path else from_block k marks path) ≤ suc (length path)
      go true ih = omega arith
      go false ih = omega arith

  -- what stands from a block on is a path
  pub path-from : (slots : List Slot) (k : ℕ) (at : Option SlotNumber) (path : List SlotNumber) → IsPath slots at path
      → IsPath slots (start_of None (from_block k marks path)) (from_block k marks path)
  path-from slots k at [] h = refl
  path-from slots k at (n ∷ path) h = go (nat_le k (mark_at marks n).block) (path-from slots k (slot_at slots n).next path h.2)
    where
      go : (b : Bool) → IsPath slots (start_of None (from_block k marks path)) (from_block k marks path)
          → IsPath slots (start_of None (if b then n ∷ path else from_block k marks path)) (if b then n ∷ path else from_block k marks path)
      go true ih = (refl, h.1, h.2)
      go false ih = ih

  -- from block to block
  module _ (slots : List Slot) (first : Option SlotNumber) (blocks : List MarkBlock) (walk : LinksEnd slots first) (counted : IsCounted marks blocks (slots_from slots first) None) where
    -- what stands behind a block
    pub block_end : (k : ℕ) → k < length blocks → LinksEnd slots (block_at blocks k).end × (slots_from slots (block_at blocks k).end ≡ from_block (suc k) marks (slots_from slots first))
    block_end k within =
        let path : List SlotNumber = slots_from slots first in
        let on : IsPath slots (block_at blocks k).end (from_block (suc k) marks path) =
        subst (λ o. IsPath slots o (from_block (suc k) marks path)) (sym (counted.ends k within)) (path-from slots (suc k) first path walk.path) in
        let short : length (from_block (suc k) marks path) ≤ length slots = omega (arith, length-from (suc k) path, length-path_from slots first) in
        (walk_from_path slots (block_at blocks k).end (from_block (suc k) marks path) on short, path_from-path slots (block_at blocks k).end (from_block (suc k) marks path) on short)

    pub end_within : (k : ℕ) → k < length blocks → ForSome (block_at blocks k).end (λ m. m.0 < length slots)
    end_within k within = λ m e. (walk-Some slots m (subst (LinksEnd slots) e (block_end k within).0)).0

    pub block_step : (k : ℕ) (at : Option SlotNumber) → k < length blocks → slots_from slots at ≡ from_block k marks (slots_from slots first)
        → LinksEnd slots (block_at blocks k).end
        × (slots_from slots (block_at blocks k).end ≡ from_block (k + 1) marks (slots_from slots first))
        × (present_along slots marks (slots_from slots (block_at blocks k).end) ≡ drop (block_at blocks k).present (present_along slots marks (slots_from slots at)))
    block_step k at within rest =
        let path : List SlotNumber = slots_from slots first in
        let end = block_end k within in
        let there : slots_from slots (block_at blocks k).end ≡ from_block (suc k) marks path = end.1 in
        let count : count_where (is_marked_in k) marks (from_block k marks path) ≡ (block_at blocks k).present = count-from k path ∙ sym (counted.counted k within) in
        let one : k + 1 ≡ suc k = omega arith in (
          end.0,
          there ∙ ap (λ m. from_block m marks path) (sym one),
          ap (present_along slots marks) (there ∙ sym (from-from k path))
              ∙ skip slots k k (from_block k marks path) (omega arith) (rising-from k 0 path counted.rising)
              ∙ (λ i. drop (count i) (present_along slots marks (sym rest i))),
        )

-- from slot to slot
module _ (slots : List Slot) (marks : List Mark) (at : Option SlotNumber) (n : SlotNumber) (s : IsStep slots at n) where
  pub due : (i : ℕ) → ((mark_at marks n).is_present && nat_eq i 0) ≡ true → Some (slot_at slots n).id ≡ slice_get (present_along slots marks (slots_from slots at)) i
  due i h = rw s.path (go i (mark_at marks n).is_present h)
    where
      go : (i : ℕ) (p : Bool) → (p && nat_eq i 0) ≡ true
          → ◌≡◌ {A = Option Id} (Some (slot_at slots n).id) (slice_get (if p then (slot_at slots n).id ∷ present_along slots marks (slots_from slots (slot_at slots n).next) else present_along slots marks (slots_from slots (slot_at slots n).next)) i)
      go i false h = absurd (true≢false (sym h))
      go zero true h = refl
      go (suc i) true h = absurd (omega (arith, eqb-true (suc i) 0 h))

  pub not_due : (i : ℕ) → ((mark_at marks n).is_present && nat_eq i 0) ≡ false
      → slice_get (present_along slots marks (slots_from slots (slot_at slots n).next)) (i - bit (mark_at marks n).is_present) ≡ slice_get (present_along slots marks (slots_from slots at)) i
  not_due i h = rw s.path (go i (mark_at marks n).is_present h)
    where
      go : (i : ℕ) (p : Bool) → (p && nat_eq i 0) ≡ false
          → slice_get (present_along slots marks (slots_from slots (slot_at slots n).next)) (i - bit p)
          ≡ slice_get (if p then (slot_at slots n).id ∷ present_along slots marks (slots_from slots (slot_at slots n).next) else present_along slots marks (slots_from slots (slot_at slots n).next)) i
      go i false h = let e : i - 0 ≡ i = omega arith in ap (slice_get (present_along slots marks (slots_from slots (slot_at slots n).next))) e
      go zero true h = absurd (true≢false h)
      go (suc i) true h = let e : suc i - 1 ≡ i = omega arith in ap (slice_get (present_along slots marks (slots_from slots (slot_at slots n).next))) e

pub left_enough : (i : ℕ) (p : Bool) → (p && nat_eq i 0) ≡ false → bit p ≤ i
left_enough i false h = omega arith
left_enough zero true h = absurd (true≢false h)
left_enough (suc i) true h = omega arith
