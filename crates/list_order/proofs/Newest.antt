-- The last slot of a path, if its id is present, has the last of the present ids.
use Rattle.std.proofs.Common.{◌≡◌, ℕ, suc, inl, inr, List, [], ◌∷◌, Bool, true, false, Option, Some, None, slice_get, Contains, refl, sym, ap, subst, ◌∙◌, if◌then◌else◌}
use Rattle.doc_api.specs.Words.{Id}
use Rattle.list_laws.proofs.Members.{Contains-nil, Contains-here, Contains-there, Contains-cases}
use Rattle.crdt_rules.proofs.Tests.{some_same, some≢none}
use Rattle.crdt_rules.specs.Same.{id_eq}
use Rattle.list_order.specs.declared.marks.Mark.{Mark}
use Rattle.list_order.specs.declared.slots.Slot.{Slot}
use Rattle.list_order.specs.declared.slots.SlotNumber.{SlotNumber}
use Rattle.list_order.specs.Slots.{slot_at, number_along, IsPath}
use Rattle.list_order.specs.Marks.{mark_at, count_where, is_marked, present_along}

module _ (slots : List Slot) (marks : List Mark) (n : SlotNumber) where
  -- so many are before it
  abbrev IsLastPresent : List SlotNumber → Type 0
  IsLastPresent path = (k : ℕ) × (count_where is_marked marks path ≡ suc k) × (slice_get (present_along slots marks path) k ≡ Some (slot_at slots n).id)

  one_more : (m : SlotNumber) (path : List SlotNumber) (b : Bool) → (mark_at marks m).is_present ≡ b → IsLastPresent path → IsLastPresent (m ∷ path)
  one_more m path true is rest = rw is (suc rest.0, ap suc rest.1, rest.2)
  one_more m path false is rest = rw is rest

  pub last_present : (at : Option SlotNumber) (path : List SlotNumber) → IsPath slots at path → Contains path n
      → (slot_at slots n).next ≡ None → (mark_at marks n).is_present ≡ true → IsLastPresent path
  last_present at [] h c ends marked = absurd (Contains-nil c)
  last_present at (m ∷ path) h c ends marked =
      elim (Contains-cases m path c) [
        | inl here ↦ alone path (subst (λ x. IsPath slots (slot_at slots x).next path) here h.2) here
        | inr there ↦ one_more m path (mark_at marks m).is_present refl (last_present (slot_at slots m).next path h.2 there ends marked)
      ]
    where
      alone : (path : List SlotNumber) → IsPath slots (slot_at slots n).next path → m ≡ n → IsLastPresent (m ∷ path)
      alone [] h is = rw (is, marked) (0, refl, refl)
      alone (p ∷ path) h is = absurd (some≢none (sym h.0 ∙ ends))

-- a slot that is found by its id stands in the path
pub found_there : (slots : List Slot) (path : List SlotNumber) (id : Id) (n : SlotNumber) → number_along slots path id ≡ Some n → Contains path n
found_there slots [] id n h = absurd (some≢none (sym h))
found_there slots (m ∷ path) id n h = by (id_eq (slot_at slots m).id id) h (found_there slots path id n)
  where
    by : (b : Bool) → ◌≡◌ {A = Option SlotNumber} (if b then Some m else number_along slots path id) (Some n)
        → (number_along slots path id ≡ Some n → Contains path n) → Contains (m ∷ path) n
    by true h ih = Contains-here path (some_same h)
    by false h ih = Contains-there m path (ih h)
