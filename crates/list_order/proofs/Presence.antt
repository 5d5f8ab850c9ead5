-- The present ids along a path.
use Rattle.std.proofs.Common.{◌≡◌, suc, List, [], ◌∷◌, length, filter, Bool, true, false, if◌then◌else◌, refl, ap}
use Rattle.list_order.specs.declared.slots.Slot.{Slot}
use Rattle.list_order.specs.declared.slots.SlotNumber.{SlotNumber}
use Rattle.list_order.specs.declared.marks.Mark.{Mark}
use Rattle.list_order.specs.Entries.{ids_of, present_of}
use Rattle.list_order.specs.Slots.{slot_at}
use Rattle.list_order.specs.Marks.{mark_at, count_where, is_marked, present_along, entries_along}

module _ (slots : List Slot) (marks : List Mark) where
  pub present_of-entries : (path : List SlotNumber) → present_of (entries_along slots marks path) ≡ present_along slots marks path
  present_of-entries [] = refl
  present_of-entries (n ∷ path) = go (mark_at marks n).is_present (present_of-entries path)
    where
      go : (b : Bool) → present_of (entries_along slots marks path) ≡ present_along slots marks path
          → ids_of (if b then ((slot_at slots n).id, (mark_at marks n).is_present) ∷ filter (λ e. e.1) (entries_along slots marks path) else filter (λ e. e.1) (entries_along slots marks path))
          ≡ (if b then (slot_at slots n).id ∷ present_along slots marks path else present_along slots marks path)
      go true ih = ap (λ l. (slot_at slots n).id ∷ l) ih
      go false ih = ih

  pub count-present : (path : List SlotNumber) → count_where is_marked marks path ≡ length (present_along slots marks path)
  count-present [] = refl
  count-present (n ∷ path) = go (mark_at marks n).is_present (count-present path)
    where
      go : (b : Bool) → count_where is_marked marks path ≡ length (present_along slots marks path)
          → (if b then suc (count_where is_marked marks path) else count_where is_marked marks path) ≡ length (if b then (slot_at slots n).id ∷ present_along slots marks path else present_along slots marks path)
      go true ih = ap suc ih
      go false ih = ih

module _ (marks new : List Mark) (same : (n : SlotNumber) → (mark_at new n).is_present ≡ (mark_at marks n).is_present) where
  pub count-presence : (path : List SlotNumber) → count_where is_marked new path ≡ count_where is_marked marks path
  count-presence [] = refl
  count-presence (n ∷ path) = let c = count-presence path in λ i. if same n i then suc (c i) else c i

  pub entries-presence : (slots : List Slot) (path : List SlotNumber) → entries_along slots new path ≡ entries_along slots marks path
  entries-presence slots [] = refl
  entries-presence slots (n ∷ path) = λ i. ((slot_at slots n).id, same n i) ∷ entries-presence slots path i
