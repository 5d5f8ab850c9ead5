-- Linked slots: what the links lead through, and what an insertion makes of them.
use Rattle.std.specs.Prelude.{◌≡◌, ◌<◌, ◌+◌, ℕ, Bool, zero, suc, List, [], ◌∷◌, ◌++◌, map, length}
use Rattle.std.specs.Prelude.{Option, Some, None}
use Rattle.std.specs.Prelude.{option_and_then, slice_index_or, slice_set, if◌then◌else◌}
use Rattle.std.specs.Option.{ForSome}
use Rattle.std.specs.Ordering.{is_lt}
use Rattle.doc_api.specs.Words.{Id, id_cmp}
use Rattle.crdt_rules.specs.Same.{id_eq}
use Rattle.presence_set.specs.ById.{get, IsAscending}
use Rattle.list_order.specs.declared.slots.Slot.{Slot}
use Rattle.list_order.specs.declared.slots.SlotNumber.{SlotNumber}

-- a slot for numbers that name none
abbrev pub blank_slot : Slot
blank_slot = record { id = record { counter = 0; replica = [] }; next = None }

abbrev pub slot_at : List Slot → SlotNumber → Slot
slot_at slots n = slice_index_or slots n.0 blank_slot

-- the slot behind a slot, or the first
abbrev pub behind : List Slot → Option SlotNumber → Option SlotNumber → Option SlotNumber
behind slots first None = first
behind slots first (Some n) = (slot_at slots n).next

-- the slot behind that of an id, or the first. There is none behind an id without a slot
abbrev pub slot_after : List Slot → Option SlotNumber → List (Id × SlotNumber) → Option Id
    → Option SlotNumber
slot_after slots first index None = first
slot_after slots first index (Some id) = option_and_then
    (λ p. (slot_at slots p).next) (get index id)

-- from a slot on, the links lead through these slots and end
abbrev pub IsPath : List Slot → Option SlotNumber → List SlotNumber → Type 0
IsPath slots at [] = at ≡ None
IsPath slots at (n ∷ path) = (at ≡ Some n) × (n.0 < length slots)
    × IsPath slots (slot_at slots n).next path

-- the slots that the links lead through, so many at most
abbrev pub followed : ℕ → List Slot → Option SlotNumber → List SlotNumber
followed zero slots at = []
followed (suc most) slots None = []
followed (suc most) slots (Some n) = n ∷ followed most slots (slot_at slots n).next

unfoldable pub slots_from : List Slot → Option SlotNumber → List SlotNumber
slots_from slots at = followed (length slots) slots at

abbrev pub ids_along : List Slot → List SlotNumber → List Id
ids_along slots path = map (λ n. (slot_at slots n).id) path

-- the first slot with an id
abbrev pub number_along : List Slot → List SlotNumber → Id → Option SlotNumber
number_along slots [] id = None
number_along slots (n ∷ path) id = if id_eq (slot_at slots n).id id then Some n else number_along slots path id

-- the slot of the id that a new one comes after, if that is not the head
abbrev pub number_for : List (Id × SlotNumber) → Option Id → Option SlotNumber
number_for index None = None
number_for index (Some id) = get index id

-- how many ids the index has room for: those that it has, and one more where there is room for it
abbrev pub room_in : List (Id × SlotNumber) × Bool → ℕ
room_in index = length index.0 + (if index.1 then 1 else 0)

-- the last slot that is not less than id, from the front on, or previous
abbrev pub passed : List Slot → Id → Option SlotNumber → List SlotNumber → Option SlotNumber
passed slots id previous [] = previous
passed slots id previous (n ∷ path) =
    if is_lt (id_cmp (slot_at slots n).id id) then previous else passed slots id (Some n) path

-- the slot that a new id comes behind
abbrev pub place_in : List Slot → Option SlotNumber → List (Id × SlotNumber) → Option Id → Id
    → Option SlotNumber
place_in slots first index after id =
    passed slots id (number_for index after) (slots_from slots (behind slots first (number_for index after)))

-- the number of a new slot
abbrev pub fresh_in : List Slot → SlotNumber
fresh_in slots = record { 0 = length slots }

-- the slots with one more, linked in behind a slot or as the first
abbrev pub linked : List Slot → Option SlotNumber → Option SlotNumber → Id → List Slot
linked slots first None id = slots ++ record { id = id; next = first } ∷ []
linked slots first (Some p) id =
    slice_set slots p.0 (record { id = (slot_at slots p).id; next = Some (record { 0 = length slots }) })
    ++ record { id = id; next = (slot_at slots p).next } ∷ []

abbrev pub linked_first : List Slot → Option SlotNumber → Option SlotNumber → Option SlotNumber
linked_first slots first None = Some (record { 0 = length slots })
linked_first slots first (Some p) = first

-- the links from the first on lead through every slot once, and the index has the slot of each id
pub record IsOrder (slots : List Slot) (first : Option SlotNumber) (index : List (Id × SlotNumber)) : Type 0 where
  pub path : IsPath slots first (slots_from slots first)
  pub every : length (slots_from slots first) ≡ length slots
  pub ascending : IsAscending index
  pub exact : (id : Id) → get index id ≡ number_along slots (slots_from slots first) id
  pub indexed : length index ≡ length slots

-- the links from a slot on end
pub record LinksEnd (slots : List Slot) (at : Option SlotNumber) : Type 0 where
  pub path : IsPath slots at (slots_from slots at)

-- the slots from the first one on lead to this one
abbrev pub LeadsTo : List Slot → Option SlotNumber → Option SlotNumber → Type 0
LeadsTo slots first at = (front : List SlotNumber)
    × (slots_from slots first ≡ front ++ slots_from slots at)

-- a slot that the links lead to, or none for the front. From it they go on to the end
pub record IsOnPath (slots : List Slot) (first previous : Option SlotNumber) : Type 0 where
  pub within : ForSome previous (λ p. p.0 < length slots)
  pub walk : LinksEnd slots (behind slots first previous)
  pub leads : LeadsTo slots first (behind slots first previous)
