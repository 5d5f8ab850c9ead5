-- The id after another.
use Rattle.std.proofs.Common.{◌≡◌, ◌+◌, suc, List, [], ◌∷◌, Bool, true, false, not, if◌then◌else◌, Option, Some, None, option_and_then, slice_get, refl, sym, ap, ◌∙◌, arith}
use Rattle.presence_set.specs.ById.{get}
use Rattle.lamport_id.specs.declared.id.Id.{Id}
use Rattle.crdt_rules.specs.Same.{id_eq}
use Rattle.crdt_rules.specs.Places.{place_of}
use Rattle.list_order.specs.declared.slots.Slot.{Slot}
use Rattle.list_order.specs.declared.slots.SlotNumber.{SlotNumber}
use Rattle.list_order.specs.Following.{following}
use Rattle.list_order.specs.Slots.{slot_at, slot_after, IsPath, ids_along, number_along}

-- the id in a slot
abbrev pub id_in : List Slot → Option SlotNumber → Option Id
id_in slots None = None
id_in slots (Some n) = Some (slot_at slots n).id

module _ (slots : List Slot) where
  head_id : (at : Option SlotNumber) (path : List SlotNumber) → IsPath slots at path → slice_get (ids_along slots path) 0 ≡ id_in slots at
  head_id at [] p = ap (id_in slots) (sym p)
  head_id at (n ∷ path) p = ap (id_in slots) (sym p.0)

  next_id : (at : Option SlotNumber) (path : List SlotNumber) → IsPath slots at path → (id : Id) (p : SlotNumber) → number_along slots path id ≡ Some p
      → slice_get (ids_along slots path) (place_of (ids_along slots path) id + 1) ≡ id_in slots (slot_at slots p).next
  next_id at [] p id m e = absurd (cc)
  next_id at (n ∷ path) p id m e = by (id_eq (slot_at slots n).id id) e (λ h. next_id (slot_at slots n).next path p.2 id m h)
    where
      by : (here : Bool) → ◌≡◌ {A = Option SlotNumber} (if here then Some n else number_along slots path id) (Some m)
          → (number_along slots path id ≡ Some m → slice_get (ids_along slots path) (place_of (ids_along slots path) id + 1) ≡ id_in slots (slot_at slots m).next)
          → slice_get (ids_along slots (n ∷ path)) ((if not here then 1 + place_of (ids_along slots path) id else 0) + 1) ≡ id_in slots (slot_at slots m).next
      by true h ih = let same : n ≡ m = cc in head_id (slot_at slots n).next path p.2 ∙ ap (λ k. id_in slots (slot_at slots k).next) same
      by false h ih =
          let one : 1 + place_of (ids_along slots path) id + 1 ≡ suc (place_of (ids_along slots path) id + 1) = omega arith in
          rw one (ih h)

  none_next : (path : List SlotNumber) (id : Id) → number_along slots path id ≡ None
      → slice_get (ids_along slots path) (place_of (ids_along slots path) id + 1) ≡ None
  none_next [] id e = refl
  none_next (n ∷ path) id e = by (id_eq (slot_at slots n).id id) e (none_next path id)
    where
      by : (here : Bool) → ◌≡◌ {A = Option SlotNumber} (if here then Some n else number_along slots path id) None
          → (number_along slots path id ≡ None → slice_get (ids_along slots path) (place_of (ids_along slots path) id + 1) ≡ None)
          → slice_get (ids_along slots (n ∷ path)) ((if not here then 1 + place_of (ids_along slots path) id else 0) + 1) ≡ None
      by true h ih = absurd (cc)
      by false h ih =
          let one : 1 + place_of (ids_along slots path) id + 1 ≡ suc (place_of (ids_along slots path) id + 1) = omega arith in
          rw one (ih h)

  pub following-slot : (first : Option SlotNumber) (index : List (Id × SlotNumber)) (path : List SlotNumber) → IsPath slots first path
      → ((id : Id) → get index id ≡ number_along slots path id)
      → (after : Option Id) → id_in slots (slot_after slots first index after) ≡ following (ids_along slots path) after
  following-slot first index path p exact None = sym (head_id first path p)
  following-slot first index path p exact (Some id) = by (get index id) (sym (exact id))
    where
      by : (there : Option SlotNumber) → number_along slots path id ≡ there
          → id_in slots (option_and_then (λ q. (slot_at slots q).next) there) ≡ slice_get (ids_along slots path) (place_of (ids_along slots path) id + 1)
      by None e = sym (none_next path id e)
      by (Some q) e = sym (next_id first path p id q e)
