-- A path goes through no slot twice.
use Rattle.std.proofs.Common.{◌≡◌, ◌≢◌, ◌<◌, ◌≤◌, List, [], ◌∷◌, ◌++◌, length, length-append, set, get_or-set_same, get_or-set_other, Option, ap, subst, arith}
use Rattle.list_order.specs.declared.slots.Slot.{Slot}
use Rattle.list_order.specs.declared.slots.SlotNumber.{SlotNumber}
use Rattle.list_order.specs.declared.marks.Mark.{Mark}
use Rattle.list_order.specs.Slots.{slot_at, IsPath}
use Rattle.list_order.specs.Marks.{mark_at, unmarked}
use Rattle.list_order.proofs.Paths.{path_unique, path-append}
use Rattle.list_order.proofs.Counting.{Along, along-map, IsSameMark}

module _ (slots : List Slot) where
  elsewhere : (n m : SlotNumber) (rest path : List SlotNumber) → IsPath slots (slot_at slots n).next rest → IsPath slots (slot_at slots m).next path
      → length path ≢ length rest → m ≢ n
  elsewhere n m rest path tail h other same =
      other (ap length (path_unique slots (slot_at slots n).next path rest (subst (λ k. IsPath slots (slot_at slots k).next path) same h) tail))

  behind : (n : SlotNumber) (rest : List SlotNumber) → IsPath slots (slot_at slots n).next rest → (at : Option SlotNumber) (path : List SlotNumber)
      → length path ≤ length rest → IsPath slots at path → Along (λ m. m ≢ n) path
  behind n rest tail at [] short h = tt
  behind n rest tail at (m ∷ path) short h =
      (elsewhere n m rest path tail h.2 (λ e. omega arith), behind n rest tail (slot_at slots m).next path (omega arith) h.2)

  pub apart_rest : (at : Option SlotNumber) (front : List SlotNumber) (n : SlotNumber) (rest : List SlotNumber) → IsPath slots at (front ++ n ∷ rest)
      → Along (λ m. m ≢ n) rest
  apart_rest at front n rest h =
      let tail = (path-append slots front n rest at h).1 in
      behind n rest tail (slot_at slots n).next rest (omega arith) tail

  pub apart_front : (at : Option SlotNumber) (front : List SlotNumber) (n : SlotNumber) (rest : List SlotNumber) → IsPath slots at (front ++ n ∷ rest)
      → Along (λ m. m ≢ n) front
  apart_front at [] n rest h = tt
  apart_front at (m ∷ front) n rest h =
      let tail = (path-append slots (m ∷ front) n rest at h).1 in
      (elsewhere n m rest (front ++ n ∷ rest) tail h.2 (λ e. omega (arith, e, length-append front (n ∷ rest))), apart_front (slot_at slots m).next front n rest h.2)

module _ (marks : List Mark) (n : SlotNumber) (mark : Mark) where
  pub set_here : n.0 < length marks → mark_at (set marks n.0 mark) n ≡ mark
  set_here within = get_or-set_same marks n.0 mark unmarked within

  pub set_other : (m : SlotNumber) → m ≢ n → IsSameMark marks (set marks n.0 mark) m
  set_other m other = get_or-set_other marks n.0 m.0 mark unmarked (λ e. other (λ i. record { 0 = e i }))

  pub set_apart : (path : List SlotNumber) → Along (λ m. m ≢ n) path → Along (IsSameMark marks (set marks n.0 mark)) path
  set_apart path a = along-map set_other path a
