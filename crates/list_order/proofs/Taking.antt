-- The first present ids along a path.
use Rattle.std.proofs.Common.{◌≡◌, ◌≢◌, ◌≤◌, ◌+◌, ◌-◌, ℕ, zero, suc, List, [], ◌∷◌, ◌++◌, length, take, drop, Bool, true, false, if◌then◌else◌, Option, slice_get, refl, ap, ◌∙◌, append_assoc, take-append-drop, arith}
use Rattle.std.proofs.lemmas.List.{take_all}
use Rattle.doc_api.specs.Words.{Id}
use Rattle.list_order.specs.declared.slots.Slot.{Slot}
use Rattle.list_order.specs.declared.slots.SlotNumber.{SlotNumber}
use Rattle.list_order.specs.declared.marks.Mark.{Mark}
use Rattle.list_order.specs.Slots.{slot_at, slots_from}
use Rattle.list_order.specs.Marks.{mark_at, present_along, bit}
use Rattle.list_order.proofs.Paths.{length-path_from}
use Rattle.list_order.proofs.Scanning.{IsStep}

pub slice_get-drop : {X : Type 0} (xs : List X) (n i : ℕ) → slice_get (drop n xs) i ≡ slice_get xs (n + i)
slice_get-drop xs zero i = let e : i ≡ 0 + i = omega arith in ap (slice_get xs) e
slice_get-drop [] (suc n) i = refl
slice_get-drop (x ∷ xs) (suc n) i = let e : suc (n + i) ≡ suc n + i = omega arith in slice_get-drop xs n i ∙ ap (slice_get (x ∷ xs)) e

-- what is taken first, and then all that is left
pub taken_on : {X : Type 0} (begun ids rest new all : List X) (n : ℕ) → new ≡ begun ++ take n ids → rest ≡ drop n ids → begun ++ ids ≡ all → new ++ rest ≡ all
taken_on begun ids rest new all n taken left whole =
    (λ i. taken i ++ left i) ∙ append_assoc begun (take n ids) (drop n ids) ∙ ap (λ l. begun ++ l) (take-append-drop n ids) ∙ whole

module _ (slots : List Slot) (marks : List Mark) where
  -- what is present at a slot, and then what is left of so many
  pub take_step : (at : Option SlotNumber) (n : SlotNumber) → IsStep slots at n → (most : ℕ) → most ≢ 0
      → (if (mark_at marks n).is_present then (slot_at slots n).id ∷ [] else [])
      ++ take (most - bit (mark_at marks n).is_present) (present_along slots marks (slots_from slots (slot_at slots n).next))
      ≡ take most (present_along slots marks (slots_from slots at))
  take_step at n s most some = rw s.path (go (present_along slots marks (slots_from slots (slot_at slots n).next)) most some (mark_at marks n).is_present)
    where
      go : (rest : List Id) (most : ℕ) → most ≢ 0 → (p : Bool) → (if p then (slot_at slots n).id ∷ [] else []) ++ take (most - bit p) rest ≡ take most (if p then (slot_at slots n).id ∷ rest else rest)
      go rest zero some p = absurd (some refl)
      go rest (suc most) some true = let e : suc most - 1 ≡ most = omega arith in ap (λ m. (slot_at slots n).id ∷ take m rest) e
      go rest (suc most) some false = let e : suc most - 0 ≡ suc most = omega arith in ap (λ m. take m rest) e

  present_within : (path : List SlotNumber) → length (present_along slots marks path) ≤ length path
  present_within [] = omega arith
  present_within (n ∷ path) = go (mark_at marks n).is_present (present_within path)
    where
      go : (p : Bool) → length (present_along slots marks path) ≤ length path
          → length (if p then (slot_at slots n).id ∷ present_along slots marks path else present_along slots marks path) ≤ suc (length path)
      go true ih = omega (arith, ih)
      go false ih = omega (arith, ih)

  -- no more are present than there are slots
  pub take_whole : (at : Option SlotNumber) → take (length slots) (present_along slots marks (slots_from slots at)) ≡ present_along slots marks (slots_from slots at)
  take_whole at =
      let few : length (present_along slots marks (slots_from slots at)) ≤ length slots = omega (arith, present_within (slots_from slots at), length-path_from slots at) in
      take_all (length slots) (present_along slots marks (slots_from slots at)) few
