-- One step along the links.
use Rattle.std.proofs.Common.{◌≡◌, ◌<◌, List, [], ◌∷◌, length, if◌then◌else◌, Bool, true, false, Option, Some, refl, ap, ◌∙◌, subst, arith}
use Rattle.std.specs.Option.{ForSome}
use Rattle.std.specs.Ordering.{is_lt}
use Rattle.doc_api.specs.Words.{Id, id_cmp}
use Rattle.list_order.specs.declared.slots.Slot.{Slot}
use Rattle.list_order.specs.declared.slots.SlotNumber.{SlotNumber}
use Rattle.list_order.specs.Slots.{slot_at, IsPath, slots_from, passed, LinksEnd}
use Rattle.list_order.proofs.Paths.{walk-Some}

-- a walk goes on behind a slot
pub record IsStep (slots : List Slot) (at : Option SlotNumber) (n : SlotNumber) : Type 0 where
  pub within : n.0 < length slots
  pub path : slots_from slots at ≡ n ∷ slots_from slots (slot_at slots n).next
  pub walk : LinksEnd slots (slot_at slots n).next
  pub shorter : length (slots_from slots (slot_at slots n).next) < length (slots_from slots at)

module _ (slots : List Slot) where
  pub step : (at : Option SlotNumber) (n : SlotNumber) → at ≡ Some n → LinksEnd slots at → IsStep slots at n
  step at n e walk =
      let on = walk-Some slots n (subst (λ o. LinksEnd slots o) e walk) in
      let path : slots_from slots at ≡ n ∷ slots_from slots (slot_at slots n).next = ap (slots_from slots) e ∙ on.1 in
      record { within = on.0; path = path; walk = on.2; shorter = omega (arith, ap length path) }

  -- the scan passes a slot that is not less
  pub passed_on : (id : Id) (previous at : Option SlotNumber) (n : SlotNumber) → IsStep slots at n → is_lt (id_cmp (slot_at slots n).id id) ≡ false
      → passed slots id (Some n) (slots_from slots (slot_at slots n).next) ≡ passed slots id previous (slots_from slots at)
  passed_on id previous at n s e = rw (s.path, e) refl

  -- and stops before a lesser one
  pub passed_stop : (id : Id) (previous at : Option SlotNumber) (n : SlotNumber) → IsStep slots at n → is_lt (id_cmp (slot_at slots n).id id) ≡ true
      → previous ≡ passed slots id previous (slots_from slots at)
  passed_stop id previous at n s e = rw (s.path, e) refl

  -- where the scan stops is a slot
  pub passed_within : (id : Id) (previous at : Option SlotNumber) (path : List SlotNumber) → IsPath slots at path → ForSome previous (λ p. p.0 < length slots)
      → ForSome (passed slots id previous path) (λ p. p.0 < length slots)
  passed_within id previous at [] p h = h
  passed_within id previous at (n ∷ path) p h =
      by (is_lt (id_cmp (slot_at slots n).id id))
      (passed_within id (Some n) (slot_at slots n).next path p.2 (λ m e. let same : n ≡ m = cc in subst (λ k. k.0 < length slots) same p.1))
    where
      by : (less : Bool) → ForSome (passed slots id (Some n) path) (λ p. p.0 < length slots) → ForSome (if less then previous else passed slots id (Some n) path) (λ p. p.0 < length slots)
      by true later = h
      by false later = later
