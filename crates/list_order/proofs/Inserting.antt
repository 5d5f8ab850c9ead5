-- What an insertion makes of linked slots and their index.
use Rattle.std.proofs.Common.{◌≡◌, ◌<◌, ◌≤◌, ◌+◌, ℕ, zero, suc, List, [], ◌∷◌, ◌++◌, append_assoc, length, length-append, get_or, Bool, true, false, if◌then◌else◌, Option, Some, None, option_and_then, Contains, refl, sym, ap, ◌∙◌, subst, arith}
use Rattle.std.specs.Option.{ForSome}
use Rattle.lamport_id.specs.declared.id.Id.{Id}
use Rattle.crdt_rules.specs.Same.{id_eq}
use Rattle.list_laws.specs.Order.{insert_after}
use Rattle.crdt_rules.proofs.SameLaws.{id_decides, eq_from}
use Rattle.presence_set.specs.ById.{get, put_at_id, IsAscending}
use Rattle.presence_set.proofs.ByIdLaws.{get-put}
use Rattle.presence_set.proofs.Ascending.{put_ascending}
use Rattle.list_order.specs.declared.slots.Slot.{Slot}
use Rattle.list_order.specs.declared.slots.SlotNumber.{SlotNumber}
use Rattle.list_order.specs.Slots.{slot_at, behind, IsPath, slots_from, ids_along, number_along, number_for, slot_after, place_in, fresh_in, linked, linked_first, IsOnPath, IsOrder, LinksEnd}
use Rattle.std.proofs.Math.ListN.{get_or-append}
use Rattle.std.proofs.Math.Seq.{get_or-append_seam}
use Rattle.list_order.specs.declared.marks.Mark.{Mark}
use Rattle.list_order.specs.Entries.{absent, entry_cmp, entry_of_reference}
use Rattle.list_order.specs.Marks.{mark_at, unmarked, new_mark, entries_along}
use Rattle.list_order.proofs.Counting.{Along, IsSameMark}
use Rattle.list_order.proofs.Paths.{path_from-path, walk_from_path, walk-None, path-append}
use Rattle.list_order.proofs.Scanning.{passed_within}
use Rattle.list_order.proofs.Placing.{IsCut, IsReference, found, insertion_cuts}
use Rattle.list_order.proofs.Linking.{IsInserted, inserted, entries_linked, number_linked}

module _ (slots : List Slot) where
  or_later : (id : Id) (here : Bool) (n : SlotNumber) (path : List SlotNumber) → (p : SlotNumber) × (number_along slots path id ≡ Some p)
      → (p : SlotNumber) × ((if here then Some n else number_along slots path id) ≡ Some p)
  or_later id true n path rest = (n, refl)
  or_later id false n path rest = rest

  -- an id of the list has a slot
  pub number_from_contains : (path : List SlotNumber) (id : Id) → Contains (ids_along slots path) id → (p : SlotNumber) × (number_along slots path id ≡ Some p)
  number_from_contains path id c = at path c.0 c.1 c.2
    where
      at : (path : List SlotNumber) (k : ℕ) → k < length (ids_along slots path) → get_or (ids_along slots path) k id ≡ id → (p : SlotNumber) × (number_along slots path id ≡ Some p)
      at [] k within is = absurd (omega arith)
      at (n ∷ path) zero within is = let here : id_eq (slot_at slots n).id id ≡ true = eq_from id_decides (slot_at slots n).id id is in (n, rw here refl)
      at (n ∷ path) (suc k) within is = or_later id (id_eq (slot_at slots n).id id) n path (at path k (omega arith) is)

  -- an id that has a slot is in the list
  pub contains_from_number : (path : List SlotNumber) (id : Id) (p : SlotNumber) → number_along slots path id ≡ Some p → Contains (ids_along slots path) id
  contains_from_number [] id p h = absurd (cc)
  contains_from_number (n ∷ path) id p h = by (id_eq (slot_at slots n).id id) refl h (λ e. contains_from_number path id p e)
    where
      by : (here : Bool) → id_eq (slot_at slots n).id id ≡ here → ◌≡◌ {A = Option SlotNumber} (if here then Some n else number_along slots path id) (Some p)
          → (number_along slots path id ≡ Some p → Contains (ids_along slots path) id) → Contains (ids_along slots (n ∷ path)) id
      by true is e ih = (0, omega arith, id_decides.same (slot_at slots n).id id is)
      by false is e ih = let c = ih e in (suc c.0, omega (arith, c.1), c.2)

  pub number_from_absent : (path : List SlotNumber) (id : Id) → ¬ (Contains (ids_along slots path) id) → number_along slots path id ≡ None
  number_from_absent path id absent = go (number_along slots path id) refl
    where
      go : (o : Option SlotNumber) → number_along slots path id ≡ o → number_along slots path id ≡ None
      go None e = e
      go (Some p) e = absurd (absent (contains_from_number path id p e))

  pub length-ids_along : (path : List SlotNumber) → length (ids_along slots path) ≡ length path
  length-ids_along [] = refl
  length-ids_along (n ∷ path) = ap suc (length-ids_along path)

module _ {slots : List Slot} {first : Option SlotNumber} {index : List (Id × SlotNumber)} (o : IsOrder slots first index) where
  pub first_walk : LinksEnd slots first
  first_walk = record { path = o.path }

  -- as many ids as slots
  pub length-ids : length (ids_along slots (slots_from slots first)) ≡ length slots
  length-ids = length-ids_along slots (slots_from slots first) ∙ o.every

  -- the slot that the index gives for a reference is the reference's
  pub is_reference : (after : Option Id) → ForSome after (Contains (ids_along slots (slots_from slots first)))
      → IsReference slots (slots_from slots first) after (number_for index after)
  is_reference None known = refl
  is_reference (Some id) known =
      let there = number_from_contains slots (slots_from slots first) id (known id refl) in
      (there.0, o.exact id ∙ there.1, there.1)

  -- a reference is in the list, or the front
  pub reference_on : (after : Option Id) (reference : Option SlotNumber) → number_for index after ≡ reference → IsOnPath slots first reference
  reference_on after None e = record {
    within = λ p e. absurd (cc);
    walk = first_walk;
    leads = ([], refl);
  }
  reference_on None (Some p) e = absurd (cc)
  reference_on (Some id) (Some p) e =
      let f = found slots [] (slots_from slots first) id p (sym (o.exact id) ∙ e) in
      let on = path-append slots f.front p f.rest first (subst (λ l. IsPath slots first l) f.parts o.path) in
      let short : length f.rest ≤ length slots = omega (arith, o.every, ap length f.parts, length-append f.front (p ∷ f.rest)) in
      record {
        within = λ n e. let same : p ≡ n = cc in subst (λ k. k.0 < length slots) same on.0;
        walk = walk_from_path slots (slot_at slots p).next f.rest on.1 short;
        leads = (
          f.front ++ p ∷ [],
          f.parts ∙ sym (append_assoc f.front (p ∷ []) f.rest) ∙ ap (λ l. (f.front ++ p ∷ []) ++ l) (sym (path_from-path slots (slot_at slots p).next f.rest on.1 short)),
        );
      }

  -- a slot that the index gives is one
  pub number_within : (id : Id) (p : SlotNumber) → get index id ≡ Some p → (p.0 < length slots) × LinksEnd slots (slot_at slots p).next
  number_within id p e = let on = reference_on (Some id) (Some p) e in (on.within p refl, on.walk)

  -- where a new id comes behind is a slot
  pub place_within : (after : Option Id) (id : Id) → ForSome (place_in slots first index after id) (λ p. p.0 < length slots)
  place_within after id =
      let on = reference_on after (number_for index after) refl in
      passed_within slots id (number_for index after) (behind slots first (number_for index after)) (slots_from slots (behind slots first (number_for index after))) on.walk.path on.within

  -- from the slot after an id the links end
  pub after_walk : (after : Option Id) → LinksEnd slots (slot_after slots first index after)
  after_walk None = first_walk
  after_walk (Some id) = by (get index id) refl
    where
      by : (there : Option SlotNumber) → get index id ≡ there → LinksEnd slots (option_and_then (λ p. (slot_at slots p).next) there)
      by None e = walk_from_path slots None [] refl (omega arith)
      by (Some p) e = (number_within id p e).1

  stays : (marks : List Mark) (mark : Mark) → length marks ≡ length slots → (at : Option SlotNumber) (path : List SlotNumber) → IsPath slots at path
      → Along (IsSameMark marks (marks ++ mark ∷ [])) path
  stays marks mark marked at [] p = tt
  stays marks mark marked at (n ∷ path) p =
      (get_or-append marks (mark ∷ []) unmarked n.0 (omega (arith, p.1, marked)), stays marks mark marked (slot_at slots n).next path p.2)

  module _ (marks : List Mark) (marked : length marks ≡ length slots) (after : Option Id) (known : ForSome after (Contains (ids_along slots (slots_from slots first)))) (id : Id)
      (new : number_along slots (slots_from slots first) id ≡ None) where
    abbrev pub previous : Option SlotNumber
    previous = place_in slots first index after id

    abbrev pub later : List Mark
    later = marks ++ new_mark marks previous ∷ []

    pub cut : IsCut slots marks (slots_from slots first) None previous (insert_after entry_cmp (entries_along slots marks (slots_from slots first)) (entry_of_reference after) (absent id)) id
    cut = insertion_cuts slots marks first (slots_from slots first) o.path (omega (arith, o.every)) after (number_for index after) id (is_reference after known)

    pub made : IsInserted slots first id cut.front cut.rest previous
    made = inserted slots first id cut.front cut.rest previous cut.ends (subst (λ l. IsPath slots first l) cut.parts o.path)

    pub new_path : slots_from (linked slots first previous id) (linked_first slots first previous) ≡ cut.front ++ fresh_in slots ∷ cut.rest
    new_path =
        path_from-path (linked slots first previous id) (linked_first slots first previous) (cut.front ++ fresh_in slots ∷ cut.rest) made.path
        (omega (arith, o.every, ap length cut.parts, length-append cut.front cut.rest, length-append cut.front (fresh_in slots ∷ cut.rest), made.slots_are.longer))

    -- the marks of the path stay
    pub marks_stay : Along (IsSameMark marks later) (cut.front ++ cut.rest)
    marks_stay = stays marks (new_mark marks previous) marked first (cut.front ++ cut.rest) (subst (λ l. IsPath slots first l) cut.parts o.path)

    pub mark_is : mark_at later (fresh_in slots) ≡ new_mark marks previous
    mark_is = subst (λ n. get_or later n unmarked ≡ new_mark marks previous) marked (get_or-append_seam marks (new_mark marks previous) [] unmarked)

    pub entries_inserted : entries_along (linked slots first previous id) later (slots_from (linked slots first previous id) (linked_first slots first previous))
        ≡ insert_after entry_cmp (entries_along slots marks (slots_from slots first)) (entry_of_reference after) (absent id)
    entries_inserted =
        ap (entries_along (linked slots first previous id) later) new_path
        ∙ entries_linked made.slots_are marks later first cut.front cut.rest (subst (λ l. IsPath slots first l) cut.parts o.path) marks_stay (ap (λ m. m.is_present) mark_is)
        ∙ sym cut.placed

    pub order_inserted : (entries : List (Id × SlotNumber)) → entries ≡ put_at_id index id (fresh_in slots) → length entries ≡ length index + 1
        → IsOrder (linked slots first previous id) (linked_first slots first previous) entries
    order_inserted entries are longer = record {
      path = subst (λ l. IsPath (linked slots first previous id) (linked_first slots first previous) l) (sym new_path) made.path;
      every = omega (arith, ap length new_path, o.every, ap length cut.parts, length-append cut.front cut.rest, length-append cut.front (fresh_in slots ∷ cut.rest), made.slots_are.longer);
      ascending = subst IsAscending (sym are) (put_ascending index id (fresh_in slots) o.ascending);
      exact = λ i.
          ap (λ l. get l i) are ∙ get-put index id (fresh_in slots) i
          ∙ ap (λ n. if id_eq id i then Some (fresh_in slots) else n) (o.exact i ∙ ap (λ l. number_along slots l i) cut.parts)
          ∙ sym (number_linked made.slots_are first cut.front cut.rest (subst (λ l. IsPath slots first l) cut.parts o.path) (subst (λ l. number_along slots l id ≡ None) cut.parts new) i)
          ∙ sym (ap (λ l. number_along (linked slots first previous id) l i) new_path);
      indexed = omega (arith, longer, o.indexed, made.slots_are.longer);
    }

-- no slots
pub none_ordered : IsOrder [] None []
none_ordered = record {
  path = (walk_from_path [] None [] refl (omega arith)).path;
  every = ap length (walk-None []);
  ascending = tt;
  exact = λ id. sym (ap (λ l. number_along [] l id) (walk-None []));
  indexed = refl;
}
