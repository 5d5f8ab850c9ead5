-- How many are present up to a slot.
use Rattle.std.proofs.Common.{◌≡◌, ◌≢◌, ◌<◌, ◌≤◌, ◌+◌, ℕ, suc, List, [], ◌∷◌, length, Bool, true, false, ◌&&◌, nat_eq, nat_le, if◌then◌else◌, eqb-true, eq-eqb, Option, Some, None, refl, sym, ap, ◌∙◌, true≢false, arith}
use Rattle.std.proofs.lemmas.Bool.{leb-true, leb-false}
use Rattle.doc_api.specs.Words.{Id}
use Rattle.crdt_rules.specs.Same.{id_eq}
use Rattle.list_order.specs.declared.slots.Slot.{Slot}
use Rattle.list_order.specs.declared.slots.SlotNumber.{SlotNumber}
use Rattle.list_order.specs.declared.marks.Mark.{Mark}
use Rattle.list_order.specs.declared.marks.MarkBlock.{MarkBlock}
use Rattle.list_order.specs.Entries.{present_of, up_to}
use Rattle.list_order.specs.Slots.{slot_at, slots_from, number_along, LinksEnd}
use Rattle.list_order.specs.Marks.{mark_at, block_at, bit, count_to, count_where, is_marked, is_marked_in, from_block, entries_along, IsInBlockOrder, IsCounted}
use Rattle.list_order.proofs.Scanning.{IsStep}
use Rattle.list_order.proofs.Counting.{count-later, rising-from, from-from, count-from, block_end}
use Rattle.list_order.proofs.Presence.{present_of-entries, count-present}

-- slots of one number are one
one_slot : (m n : SlotNumber) → nat_eq m.0 n.0 ≡ true → m ≡ n
one_slot m n t = λ i. record { 0 = eqb-true m.0 n.0 t i }

module _ (marks : List Mark) (n : SlotNumber) where
  -- no more are present than there are slots
  pub count_to-few : (path : List SlotNumber) → count_to n marks path ≤ length path
  count_to-few [] = omega arith
  count_to-few (m ∷ path) = go (mark_at marks m).is_present (nat_eq m.0 n.0) (count_to-few path)
    where
      go : (p here : Bool) → count_to n marks path ≤ length path → bit p + (if here then 0 else count_to n marks path) ≤ suc (length path)
      go true true ih = omega arith
      go true false ih = omega (arith, ih)
      go false true ih = omega arith
      go false false ih = omega (arith, ih)

  -- all of an earlier block are up to the slot
  count_to-skip : (k low : ℕ) (path : List SlotNumber) → k < (mark_at marks n).block → k ≤ low → IsInBlockOrder low marks path
      → count_to n marks path ≡ count_where (is_marked_in k) marks path + count_to n marks (from_block (suc k) marks path)
  count_to-skip k low [] before le h = refl
  count_to-skip k low (m ∷ path) before le h = go (nat_le (suc k) (mark_at marks m).block) refl (count_to-skip k (mark_at marks m).block path before (omega (arith, le, h.0)) h.1)
    where
      go : (c : Bool) → nat_le (suc k) (mark_at marks m).block ≡ c
          → count_to n marks path ≡ count_where (is_marked_in k) marks path + count_to n marks (from_block (suc k) marks path)
          → count_to n marks (m ∷ path) ≡ count_where (is_marked_in k) marks (m ∷ path) + count_to n marks (if c then m ∷ path else from_block (suc k) marks path)
      go true f ih =
          let none : count_where (is_marked_in k) marks (m ∷ path) ≡ 0 =
          count-later marks k (mark_at marks m).block (m ∷ path) (omega (arith, leb-true (suc k) (mark_at marks m).block f)) (omega arith, h.1) in
          let same : count_to n marks (m ∷ path) ≡ 0 + count_to n marks (m ∷ path) = omega arith in
          same ∙ ap (λ z. z + count_to n marks (m ∷ path)) (sym none)
      go false f ih = by (mark_at marks m).is_present (nat_eq (mark_at marks m).block k) refl (nat_eq m.0 n.0) refl ih
        where
          by : (p e : Bool) → nat_eq (mark_at marks m).block k ≡ e → (here : Bool) → nat_eq m.0 n.0 ≡ here
              → count_to n marks path ≡ count_where (is_marked_in k) marks path + count_to n marks (from_block (suc k) marks path)
              → bit p + (if here then 0 else count_to n marks path)
              ≡ (if p && e then suc (count_where (is_marked_in k) marks path) else count_where (is_marked_in k) marks path) + count_to n marks (from_block (suc k) marks path)
          by p e g true t ih = absurd (omega (arith, before, leb-false (suc k) (mark_at marks m).block f, ap (λ x. (mark_at marks x).block) (one_slot m n t)))
          by true true g false t ih = omega (arith, ih)
          by false true g false t ih = omega (arith, ih)
          by p false g false t ih = absurd (true≢false (sym (eq-eqb (mark_at marks m).block k (omega (arith, le, h.0, leb-false (suc k) (mark_at marks m).block f))) ∙ g))

  -- from block to block
  pub count_to-block : (slots : List Slot) (first : Option SlotNumber) (blocks : List MarkBlock) (walk : LinksEnd slots first) (counted : IsCounted marks blocks (slots_from slots first) None)
      (k : ℕ) (at : Option SlotNumber) → k < length blocks → k < (mark_at marks n).block → slots_from slots at ≡ from_block k marks (slots_from slots first)
      → count_to n marks (slots_from slots at) ≡ (block_at blocks k).present + count_to n marks (slots_from slots (block_at blocks k).end)
  count_to-block slots first blocks walk counted k at within before rest =
      let path : List SlotNumber = slots_from slots first in
      let behind : from_block (suc k) marks (from_block k marks path) ≡ slots_from slots (block_at blocks k).end =
      from-from marks k path ∙ sym (block_end marks slots first blocks walk counted k within).1 in
      let count : count_where (is_marked_in k) marks (from_block k marks path) ≡ (block_at blocks k).present = count-from marks k path ∙ sym (counted.counted k within) in
      ap (count_to n marks) rest
      ∙ count_to-skip k k (from_block k marks path) before (omega arith) (rising-from marks k 0 path counted.rising)
      ∙ (λ i. count i + count_to n marks (behind i))

  -- from slot to slot
  module _ (slots : List Slot) (at : Option SlotNumber) (m : SlotNumber) (s : IsStep slots at m) where
    pub count_to-on : m.0 ≢ n.0 → count_to n marks (slots_from slots at) ≡ bit (mark_at marks m).is_present + count_to n marks (slots_from slots (slot_at slots m).next)
    count_to-on other = rw s.path (go (nat_eq m.0 n.0) refl)
      where
        go : (here : Bool) → nat_eq m.0 n.0 ≡ here
            → bit (mark_at marks m).is_present + (if here then 0 else count_to n marks (slots_from slots (slot_at slots m).next))
            ≡ bit (mark_at marks m).is_present + count_to n marks (slots_from slots (slot_at slots m).next)
        go true t = absurd (other (eqb-true m.0 n.0 t))
        go false t = refl

    pub count_to-least : bit (mark_at marks m).is_present ≤ count_to n marks (slots_from slots at)
    count_to-least = rw s.path (go (nat_eq m.0 n.0))
      where
        go : (here : Bool) → bit (mark_at marks m).is_present ≤ bit (mark_at marks m).is_present + (if here then 0 else count_to n marks (slots_from slots (slot_at slots m).next))
        go true = omega arith
        go false = omega arith

    pub count_to-reached : m.0 ≡ n.0 → count_to n marks (slots_from slots at) ≡ bit (mark_at marks m).is_present + 0
    count_to-reached here = rw (s.path, eq-eqb m.0 n.0 here) refl

module _ (slots : List Slot) (marks : List Mark) (id : Id) where
  number_has : (path : List SlotNumber) (n : SlotNumber) → number_along slots path id ≡ Some n → id_eq (slot_at slots n).id id ≡ true
  number_has [] n h = absurd (cc)
  number_has (m ∷ path) n h = by (id_eq (slot_at slots m).id id) refl h (number_has path n)
    where
      by : (here : Bool) → id_eq (slot_at slots m).id id ≡ here → ◌≡◌ {A = Option SlotNumber} (if here then Some m else number_along slots path id) (Some n)
          → (number_along slots path id ≡ Some n → id_eq (slot_at slots n).id id ≡ true) → id_eq (slot_at slots n).id id ≡ true
      by true is e ih = let same : m ≡ n = cc in ap (λ x. id_eq (slot_at slots x).id id) (sym same) ∙ is
      by false is e ih = ih e

  -- another id is in another slot
  apart : (m n : SlotNumber) → id_eq (slot_at slots m).id id ≡ false → id_eq (slot_at slots n).id id ≡ true → nat_eq m.0 n.0 ≡ false
  apart m n other is = go (nat_eq m.0 n.0) refl
    where
      go : (here : Bool) → nat_eq m.0 n.0 ≡ here → nat_eq m.0 n.0 ≡ false
      go true t = absurd (true≢false (sym is ∙ ap (λ x. id_eq (slot_at slots x).id id) (sym (one_slot m n t)) ∙ other))
      go false t = t

  -- up to the slot of an id are the entries up to the id
  pub count_to-up_to : (path : List SlotNumber) (n : SlotNumber) → number_along slots path id ≡ Some n
      → count_to n marks path ≡ length (present_of (up_to id (entries_along slots marks path)))
  count_to-up_to [] n h = absurd (cc)
  count_to-up_to (m ∷ path) n h = by (id_eq (slot_at slots m).id id) refl h (count_to-up_to path n) (number_has path n)
    where
      one : (p : Bool) → bit p + 0 ≡ length (present_of (((slot_at slots m).id, p) ∷ []))
      one true = refl
      one false = refl

      more : (p : Bool) → count_to n marks path ≡ length (present_of (up_to id (entries_along slots marks path)))
          → bit p + count_to n marks path ≡ length (present_of (((slot_at slots m).id, p) ∷ up_to id (entries_along slots marks path)))
      more true ih = omega (arith, ih)
      more false ih = omega (arith, ih)

      by : (here : Bool) → id_eq (slot_at slots m).id id ≡ here → ◌≡◌ {A = Option SlotNumber} (if here then Some m else number_along slots path id) (Some n)
          → (number_along slots path id ≡ Some n → count_to n marks path ≡ length (present_of (up_to id (entries_along slots marks path))))
          → (number_along slots path id ≡ Some n → id_eq (slot_at slots n).id id ≡ true)
          → count_to n marks (m ∷ path)
          ≡ length (present_of (if here then ((slot_at slots m).id, (mark_at marks m).is_present) ∷ [] else ((slot_at slots m).id, (mark_at marks m).is_present) ∷ up_to id (entries_along slots marks path)))
      by true is e ih has =
          let same : m ≡ n = cc in
          rw (eq-eqb m.0 n.0 (ap (λ x. x.0) same)) (one (mark_at marks m).is_present)
      by false is e ih has = rw (apart m n is (has e)) (more (mark_at marks m).is_present (ih e))

  -- up to an id that has no slot are all
  up_to-all : (path : List SlotNumber) → number_along slots path id ≡ None → up_to id (entries_along slots marks path) ≡ entries_along slots marks path
  up_to-all [] h = refl
  up_to-all (m ∷ path) h = by (id_eq (slot_at slots m).id id) h (up_to-all path)
    where
      by : (here : Bool) → ◌≡◌ {A = Option SlotNumber} (if here then Some m else number_along slots path id) None
          → (number_along slots path id ≡ None → up_to id (entries_along slots marks path) ≡ entries_along slots marks path)
          → (if here then ((slot_at slots m).id, (mark_at marks m).is_present) ∷ [] else ((slot_at slots m).id, (mark_at marks m).is_present) ∷ up_to id (entries_along slots marks path))
          ≡ ((slot_at slots m).id, (mark_at marks m).is_present) ∷ entries_along slots marks path
      by true e ih = absurd (cc)
      by false e ih = ap (λ l. ((slot_at slots m).id, (mark_at marks m).is_present) ∷ l) (ih e)

  pub count-up_to_none : (path : List SlotNumber) → number_along slots path id ≡ None
      → count_where is_marked marks path ≡ length (present_of (up_to id (entries_along slots marks path)))
  count-up_to_none path none =
      count-present slots marks path
      ∙ ap length (sym (present_of-entries slots marks path))
      ∙ ap (λ l. length (present_of l)) (sym (up_to-all path none))
