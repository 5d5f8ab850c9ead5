-- Where an insertion comes to stand along the links.
use Rattle.std.proofs.Common.{◌≡◌, ◌≤◌, List, [], ◌∷◌, ◌++◌, append_assoc, length, length-append, Bool, true, false, ◌||◌, if◌then◌else◌, Option, Some, None, refl, sym, ap, ◌∙◌, subst, arith}
use Rattle.std.specs.Prelude.{is_some}
use Rattle.std.specs.List.{list_any}
use Rattle.std.specs.Ordering.{is_lt}
use Rattle.doc_api.specs.Words.{Id, id_cmp}
use Rattle.crdt_rules.specs.Same.{id_eq}
use Rattle.list_laws.specs.Order.{place, place_behind, insert_after}
use Rattle.crdt_rules.proofs.IdOrder.{is_eq-id_cmp}
use Rattle.list_order.specs.declared.slots.Slot.{Slot}
use Rattle.list_order.specs.declared.slots.SlotNumber.{SlotNumber}
use Rattle.list_order.specs.declared.marks.Mark.{Mark}
use Rattle.list_order.specs.Entries.{ids_of, absent, entry_cmp, entry_of_reference as reference_entry}
use Rattle.list_order.specs.Marks.{mark_at, entries_along}
use Rattle.list_order.specs.Slots.{slot_at, behind, IsPath, slots_from, ids_along, number_along, passed}
use Rattle.list_order.proofs.Paths.{path_from-path, path-append}

-- the last of these, or previous
abbrev pub last_of : Option SlotNumber → List SlotNumber → Option SlotNumber
last_of previous [] = previous
last_of previous (n ∷ path) = last_of (Some n) path

last_of-append : (previous : Option SlotNumber) (front : List SlotNumber) (n : SlotNumber) (more : List SlotNumber)
    → last_of previous (front ++ n ∷ more) ≡ last_of (Some n) more
last_of-append previous [] n more = refl
last_of-append previous (m ∷ front) n more = last_of-append (Some m) front n more

-- a list that is not empty has a last element
pub ends : (previous : Option SlotNumber) (n : SlotNumber) (path : List SlotNumber)
    → (front : List SlotNumber) × (p : SlotNumber) × (n ∷ path ≡ front ++ p ∷ []) × (last_of previous (n ∷ path) ≡ Some p)
ends previous n [] = ([], n, refl, refl)
ends previous n (m ∷ path) =
    let rest = ends (Some n) m path in
    (n ∷ rest.0, rest.1, ap (λ l. n ∷ l) rest.2, rest.3)

module _ (slots : List Slot) where
  -- the slot of the id that an insertion refers to
  abbrev pub IsReference : List SlotNumber → Option Id → Option SlotNumber → Type 0
  IsReference path None reference = reference ≡ None
  IsReference path (Some id) reference = (p : SlotNumber) × (reference ≡ Some p) × (number_along slots path id ≡ Some p)

module _ (slots : List Slot) (marks : List Mark) where
  ids-append : (xs ys : List SlotNumber) → entries_along slots marks (xs ++ ys) ≡ entries_along slots marks xs ++ entries_along slots marks ys
  ids-append [] ys = refl
  ids-append (x ∷ xs) ys = ap (λ l. ((slot_at slots x).id, (mark_at marks x).is_present) ∷ l) (ids-append xs ys)

  -- the scan cuts the path where `place` puts the id
  pub record IsCut (path : List SlotNumber) (previous last : Option SlotNumber) (entries : List (Id × Bool)) (id : Id) : Type 0 where
    pub front : List SlotNumber
    pub rest : List SlotNumber
    pub parts : path ≡ front ++ rest
    pub ends : last_of previous front ≡ last
    pub placed : entries ≡ entries_along slots marks front ++ absent id ∷ entries_along slots marks rest

  passed-place : (path : List SlotNumber) (previous : Option SlotNumber) (id : Id)
      → IsCut path previous (passed slots id previous path) (place entry_cmp (entries_along slots marks path) (absent id)) id
  passed-place [] previous id = record { front = []; rest = []; parts = refl; ends = refl; placed = refl }
  passed-place (n ∷ path) previous id = by (is_lt (id_cmp (slot_at slots n).id id)) (passed-place path (Some n) id)
    where
      by : (less : Bool) → IsCut path (Some n) (passed slots id (Some n) path) (place entry_cmp (entries_along slots marks path) (absent id)) id
          → IsCut (n ∷ path) previous (if less then previous else passed slots id (Some n) path)
          (if less then absent id ∷ entries_along slots marks (n ∷ path) else ((slot_at slots n).id, (mark_at marks n).is_present) ∷ place entry_cmp (entries_along slots marks path) (absent id)) id
      by true cut = record { front = []; rest = n ∷ path; parts = refl; ends = refl; placed = refl }
      by false cut = record {
        front = n ∷ cut.front;
        rest = cut.rest;
        parts = ap (λ l. n ∷ l) cut.parts;
        ends = cut.ends;
        placed = ap (λ l. ((slot_at slots n).id, (mark_at marks n).is_present) ∷ l) cut.placed;
      }

  -- the slot of an id stands on the path, and `place_behind` places behind it
  pub record IsFound (path : List SlotNumber) (id : Id) (p : SlotNumber) : Type 0 where
    pub front : List SlotNumber
    pub rest : List SlotNumber
    pub parts : path ≡ front ++ p ∷ rest
    pub placed : (new : Id) → place_behind entry_cmp (entries_along slots marks path) (absent id) (absent new) ≡ entries_along slots marks front ++ ((slot_at slots p).id, (mark_at marks p).is_present) ∷ place entry_cmp (entries_along slots marks rest) (absent new)

  pub found : (path : List SlotNumber) (id : Id) (p : SlotNumber) → number_along slots path id ≡ Some p → IsFound path id p
  found [] id p h = absurd (cc)
  found (n ∷ path) id p h = by (id_eq (slot_at slots n).id id) refl h (λ e. found path id p e)
    where
      by : (here : Bool) → id_eq (slot_at slots n).id id ≡ here → ◌≡◌ {A = Option SlotNumber} (if here then Some n else number_along slots path id) (Some p)
          → (number_along slots path id ≡ Some p → IsFound path id p) → IsFound (n ∷ path) id p
      by true is e ih =
          let same : n ≡ p = cc in
          record {
            front = [];
            rest = path;
            parts = ap (λ m. m ∷ path) same;
            placed = λ new. rw (is_eq-id_cmp (slot_at slots n).id id, is) (ap (λ m. ((slot_at slots m).id, (mark_at marks m).is_present) ∷ place entry_cmp (entries_along slots marks path) (absent new)) same);
          }
      by false is e ih =
          let f = ih e in
          record {
            front = n ∷ f.front;
            rest = f.rest;
            parts = ap (λ l. n ∷ l) f.parts;
            placed = λ new. rw (is_eq-id_cmp (slot_at slots n).id id, is) (ap (λ l. ((slot_at slots n).id, (mark_at marks n).is_present) ∷ l) (f.placed new));
          }

  -- where an insertion cuts the path
  pub insertion_cuts : (first : Option SlotNumber) (path : List SlotNumber) → IsPath slots first path → length path ≤ length slots
      → (after : Option Id) (reference : Option SlotNumber) (id : Id) → IsReference slots path after reference
      → IsCut path None (passed slots id reference (slots_from slots (behind slots first reference))) (insert_after entry_cmp (entries_along slots marks path) (reference_entry after) (absent id)) id
  insertion_cuts first path p short None reference id h =
      let all : slots_from slots (behind slots first reference) ≡ path = ap (λ r. slots_from slots (behind slots first r)) h ∙ path_from-path slots first path p short in
      let cut = passed-place path None id in
      record {
        front = cut.front;
        rest = cut.rest;
        parts = cut.parts;
        ends = cut.ends ∙ (λ i. passed slots id (sym h i) (sym all i));
        placed = cut.placed;
      }
  insertion_cuts first path p short (Some after) reference id h =
      let previous : SlotNumber = h.0 in
      let f = found path after previous h.2 in
      let on = path-append slots f.front previous f.rest first (subst (λ l. IsPath slots first l) f.parts p) in
      let fewer : length f.rest ≤ length slots = omega (arith, ap length f.parts, length-append f.front (previous ∷ f.rest)) in
      let all : slots_from slots (behind slots first reference) ≡ f.rest =
      ap (λ r. slots_from slots (behind slots first r)) h.1 ∙ path_from-path slots (slot_at slots previous).next f.rest on.1 fewer in
      let cut = passed-place f.rest (Some previous) id in
      record {
        front = f.front ++ previous ∷ cut.front;
        rest = cut.rest;
        parts = f.parts ∙ ap (λ l. f.front ++ previous ∷ l) cut.parts ∙ sym (append_assoc f.front (previous ∷ cut.front) cut.rest);
        ends = last_of-append None f.front previous cut.front ∙ cut.ends ∙ (λ i. passed slots id (sym h.1 i) (sym all i));
        placed =
            f.placed id
            ∙ ap (λ l. entries_along slots marks f.front ++ ((slot_at slots previous).id, (mark_at marks previous).is_present) ∷ l) cut.placed
            ∙ sym (append_assoc (entries_along slots marks f.front) (entries_along slots marks (previous ∷ cut.front)) (absent id ∷ entries_along slots marks cut.rest))
            ∙ ap (λ l. l ++ absent id ∷ entries_along slots marks cut.rest) (sym (ids-append f.front (previous ∷ cut.front)));
      }

  -- an id has a slot where it is on the path
  pub is_some-number_along : (path : List SlotNumber) (id : Id) → is_some (number_along slots path id) ≡ list_any (λ e. id_eq e.0 id) (entries_along slots marks path)
  is_some-number_along [] id = refl
  is_some-number_along (n ∷ path) id = by (id_eq (slot_at slots n).id id) (is_some-number_along path id)
    where
      by : (here : Bool) → is_some (number_along slots path id) ≡ list_any (λ e. id_eq e.0 id) (entries_along slots marks path)
          → is_some (if here then Some n else number_along slots path id) ≡ (here || list_any (λ e. id_eq e.0 id) (entries_along slots marks path))
      by true ih = refl
      by false ih = ih

  -- the ids of the entries
  pub ids_of-entries : (path : List SlotNumber) → ids_of (entries_along slots marks path) ≡ ids_along slots path
  ids_of-entries [] = refl
  ids_of-entries (n ∷ path) = ap (λ l. (slot_at slots n).id ∷ l) (ids_of-entries path)
