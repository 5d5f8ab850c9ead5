-- One more slot, linked in.
use Rattle.std.proofs.Common.{◌≡◌, ◌≢◌, ◌<◌, ◌≤◌, ◌+◌, List, [], ◌∷◌, ◌++◌, append_assoc, length, length-append, length-set, get_or, set, get_or-set_same, get_or-set_other, Bool, true, false, if◌then◌else◌, Option, Some, None, refl, sym, ap, ◌∙◌, subst, true≢false, eqb, eqb-true, eq-eqb, arith}
use Rattle.std.proofs.Math.ListN.{get_or-append}
use Rattle.std.proofs.Math.Seq.{get_or-append_seam}
use Rattle.lamport_id.specs.declared.id.Id.{Id}
use Rattle.crdt_rules.specs.Same.{id_eq}
use Rattle.crdt_rules.proofs.SameLaws.{id_decides}
use Rattle.list_order.specs.declared.slots.Slot.{Slot}
use Rattle.list_order.specs.declared.slots.SlotNumber.{SlotNumber}
use Rattle.list_order.specs.Slots.{blank_slot, slot_at, IsPath, number_along, fresh_in, linked, linked_first}
use Rattle.list_order.specs.declared.marks.Mark.{Mark}
use Rattle.list_order.specs.Entries.{absent}
use Rattle.list_order.specs.Marks.{mark_at, entries_along}
use Rattle.list_order.proofs.Counting.{Along, IsSameMark}
use Rattle.list_order.proofs.Paths.{path_unique, path-append}
use Rattle.list_order.proofs.Placing.{last_of, ends}

-- new slots have one more, with an id, and the other ids as before
pub record IsLinked (slots new : List Slot) (fresh : SlotNumber) (id : Id) : Type 0 where
  pub number : fresh.0 ≡ length slots
  pub longer : length new ≡ length slots + 1
  pub new_id : (slot_at new fresh).id ≡ id
  pub ids : (n : SlotNumber) → n.0 < length slots → (slot_at new n).id ≡ (slot_at slots n).id

-- what a link leads to is as it was
abbrev pub IsSameLink : List Slot → List Slot → SlotNumber → Type 0
IsSameLink slots new n = (slot_at new n).next ≡ (slot_at slots n).next

module _ {slots new : List Slot} {fresh : SlotNumber} {id : Id} (l : IsLinked slots new fresh id) where
  -- a path whose links stay
  path_kept : ((n : SlotNumber) → n.0 < length slots → IsSameLink slots new n) → (at : Option SlotNumber) (path : List SlotNumber)
      → IsPath slots at path → IsPath new at path
  path_kept same at [] p = p
  path_kept same at (n ∷ path) p = (
    p.0,
    omega (arith, p.1, l.longer),
    subst (λ o. IsPath new o path) (sym (same n p.1)) (path_kept same (slot_at slots n).next path p.2),
  )

  -- a slot that only what is behind it leads back to
  module _ (p : SlotNumber) (rest : List SlotNumber) (tail : IsPath slots (slot_at slots p).next rest)
      (kept : (n : SlotNumber) → n ≢ p → n.0 < length slots → IsSameLink slots new n) where
    -- p is not where a path of another length leads on
    elsewhere : (n : SlotNumber) (path : List SlotNumber) → IsPath slots (slot_at slots n).next path → length path ≢ length rest → n ≢ p
    elsewhere n path h other same =
        other (ap length (path_unique slots (slot_at slots p).next path rest (subst (λ m. IsPath slots (slot_at slots m).next path) same h) tail))

    behind_kept : (at : Option SlotNumber) (path : List SlotNumber) → length path ≤ length rest → IsPath slots at path → IsPath new at path
    behind_kept at [] short h = h
    behind_kept at (n ∷ path) short h =
        let same = kept n (elsewhere n path h.2 (λ e. omega arith)) h.1 in
        (h.0, omega (arith, h.1, l.longer), subst (λ o. IsPath new o path) (sym same) (behind_kept (slot_at slots n).next path (omega arith) h.2))

    linked_behind : (slot_at new p).next ≡ Some fresh → (slot_at new fresh).next ≡ (slot_at slots p).next → (at : Option SlotNumber) (front : List SlotNumber)
        → IsPath slots at (front ++ p ∷ rest) → IsPath new at (front ++ p ∷ fresh ∷ rest)
    linked_behind to on at [] h =
        let tail_kept : IsPath new (slot_at slots p).next rest = behind_kept (slot_at slots p).next rest (omega arith) tail in (
          h.0,
          omega (arith, h.1, l.longer),
          (to, omega (arith, l.number, l.longer), subst (λ o. IsPath new o rest) (sym on) tail_kept),
        )
    linked_behind to on at (n ∷ front) h =
        let same = kept n (elsewhere n (front ++ p ∷ rest) h.2 (λ e. omega (arith, e, length-append front (p ∷ rest)))) h.1 in (
          h.0,
          omega (arith, h.1, l.longer),
          subst (λ o. IsPath new o (front ++ p ∷ fresh ∷ rest)) (sym same) (linked_behind to on (slot_at slots n).next front h.2),
        )

  -- the entries along a path are as they were
  module _ (marks later : List Mark) where
    entries_kept : (at : Option SlotNumber) (path : List SlotNumber) → IsPath slots at path → Along (IsSameMark marks later) path
        → entries_along new later path ≡ entries_along slots marks path
    entries_kept at [] p s = refl
    entries_kept at (n ∷ path) p s = λ i. (l.ids n p.1 i, (s.0 i).is_present) ∷ entries_kept (slot_at slots n).next path p.2 s.1 i

    pub entries_linked : (at : Option SlotNumber) (front rest : List SlotNumber) → IsPath slots at (front ++ rest) → Along (IsSameMark marks later) (front ++ rest)
        → (mark_at later fresh).is_present ≡ false
        → entries_along new later (front ++ fresh ∷ rest) ≡ entries_along slots marks front ++ absent id ∷ entries_along slots marks rest
    entries_linked at [] rest p s none = λ i. (l.new_id i, none i) ∷ entries_kept at rest p s i
    entries_linked at (n ∷ front) rest p s none = λ i. (l.ids n p.1 i, (s.0 i).is_present) ∷ entries_linked (slot_at slots n).next front rest p.2 s.1 none i

  number_kept : (at : Option SlotNumber) (path : List SlotNumber) → IsPath slots at path → (i : Id) → number_along new path i ≡ number_along slots path i
  number_kept at [] p i = refl
  number_kept at (n ∷ path) p i = λ d. if id_eq (l.ids n p.1 d) i then Some n else number_kept (slot_at slots n).next path p.2 i d

  -- the new slot is found, and the others as before
  pub number_linked : (at : Option SlotNumber) (front rest : List SlotNumber) → IsPath slots at (front ++ rest)
      → number_along slots (front ++ rest) id ≡ None → (i : Id)
      → number_along new (front ++ fresh ∷ rest) i ≡ (if id_eq id i then Some fresh else number_along slots (front ++ rest) i)
  number_linked at [] rest p none i =
      λ d. if id_eq (l.new_id d) i then Some fresh else number_kept at rest p i d
  number_linked at (n ∷ front) rest p none i =
      (λ d. if id_eq (l.ids n p.1 d) i then Some n else number_along new (front ++ fresh ∷ rest) i)
      ∙ by (id_eq (slot_at slots n).id i) refl (id_eq id i) refl (id_eq (slot_at slots n).id id) refl none
      (λ h. number_linked (slot_at slots n).next front rest p.2 h i)
    where
      by : (here : Bool) → id_eq (slot_at slots n).id i ≡ here → (there : Bool) → id_eq id i ≡ there → (new_here : Bool) → id_eq (slot_at slots n).id id ≡ new_here
          → ◌≡◌ {A = Option SlotNumber} (if new_here then Some n else number_along slots (front ++ rest) id) None
          → (number_along slots (front ++ rest) id ≡ None → number_along new (front ++ fresh ∷ rest) i ≡ (if there then Some fresh else number_along slots (front ++ rest) i))
          → ◌≡◌ {A = Option SlotNumber} (if here then Some n else number_along new (front ++ fresh ∷ rest) i) (if there then Some fresh else if here then Some n else number_along slots (front ++ rest) i)
      by here e there f true g h ih = absurd (cc)
      by true e true f false g h ih =
          let one : (slot_at slots n).id ≡ id = id_decides.same (slot_at slots n).id i e ∙ sym (id_decides.same id i f) in
          absurd (true≢false (sym (subst (λ x. id_eq (slot_at slots n).id x ≡ true) one (id_decides.itself (slot_at slots n).id)) ∙ g))
      by true e false f false g h ih = refl
      by false e there f false g h ih = ih h

-- the number of the slot that comes in

module _ (slots : List Slot) (first : Option SlotNumber) (id : Id) where
  head_linked : IsLinked slots (linked slots first None id) (fresh_in slots) id
  head_linked = record {
    number = refl;
    longer = length-append slots (record { id = id; next = first } ∷ []);
    new_id = ap (λ s. s.id) (get_or-append_seam slots (record { id = id; next = first }) [] blank_slot);
    ids = λ n within. ap (λ s. s.id) (get_or-append slots (record { id = id; next = first } ∷ []) blank_slot n.0 within);
  }

  -- a path whose front is empty
  path_at_head : (rest : List SlotNumber) → IsPath slots first rest → IsPath (linked slots first None id) (Some (fresh_in slots)) (fresh_in slots ∷ rest)
  path_at_head rest p =
      let new : Slot = record { id = id; next = first } in
      let on : (slot_at (linked slots first None id) (fresh_in slots)).next ≡ first = ap (λ s. s.next) (get_or-append_seam slots new [] blank_slot) in (
        refl,
        omega (arith, head_linked.longer),
        subst (λ o. IsPath (linked slots first None id) o rest) (sym on)
            (path_kept head_linked (λ n within. ap (λ s. s.next) (get_or-append slots (new ∷ []) blank_slot n.0 within)) first rest p),
      )

  module _ (p : SlotNumber) (within : p.0 < length slots) where
    abbrev before : List Slot
    before = set slots p.0 (record { id = (slot_at slots p).id; next = Some (fresh_in slots) })

    abbrev added : Slot
    added = record { id = id; next = (slot_at slots p).next }

    read_fresh : slot_at (before ++ added ∷ []) (fresh_in slots) ≡ added
    read_fresh = subst (λ n. get_or (before ++ added ∷ []) n blank_slot ≡ added) (length-set slots p.0 (record { id = (slot_at slots p).id; next = Some (fresh_in slots) })) (get_or-append_seam before added [] blank_slot)

    read_before : (n : SlotNumber) → n.0 < length slots → slot_at (before ++ added ∷ []) n ≡ slot_at before n
    read_before n inside = get_or-append before (added ∷ []) blank_slot n.0 (omega (arith, length-set slots p.0 (record { id = (slot_at slots p).id; next = Some (fresh_in slots) })))

    read_p : slot_at before p ≡ record { id = (slot_at slots p).id; next = Some (fresh_in slots) }
    read_p = get_or-set_same slots p.0 (record { id = (slot_at slots p).id; next = Some (fresh_in slots) }) blank_slot within

    read_other : (n : SlotNumber) → n ≢ p → slot_at before n ≡ slot_at slots n
    read_other n other = get_or-set_other slots p.0 n.0 (record { id = (slot_at slots p).id; next = Some (fresh_in slots) }) blank_slot (λ e. other (λ i. record { 0 = e i }))

    same_id : (n : SlotNumber) → (slot_at before n).id ≡ (slot_at slots n).id
    same_id n = go (eqb n.0 p.0) refl
      where
        go : (b : Bool) → eqb n.0 p.0 ≡ b → (slot_at before n).id ≡ (slot_at slots n).id
        go true e =
            let here : n ≡ p = λ i. record { 0 = eqb-true n.0 p.0 e i } in
            ap (λ m. (slot_at before m).id) here ∙ ap (λ s. s.id) read_p ∙ ap (λ m. (slot_at slots m).id) (sym here)
        go false e = ap (λ s. s.id) (read_other n (λ h. true≢false (sym (eq-eqb n.0 p.0 (ap (λ m. m.0) h)) ∙ e)))

    behind_linked : IsLinked slots (before ++ added ∷ []) (fresh_in slots) id
    behind_linked = record {
      number = refl;
      longer = length-append before (added ∷ []) ∙ ap (λ n. n + 1) (length-set slots p.0 (record { id = (slot_at slots p).id; next = Some (fresh_in slots) }));
      new_id = ap (λ s. s.id) read_fresh;
      ids = λ n inside. ap (λ s. s.id) (read_before n inside) ∙ same_id n;
    }

    path_behind : (front rest : List SlotNumber) → IsPath slots first (front ++ p ∷ rest) → IsPath (before ++ added ∷ []) first (front ++ p ∷ fresh_in slots ∷ rest)
    path_behind front rest h =
        linked_behind behind_linked p rest (path-append slots front p rest first h).1
        (λ n other inside. ap (λ s. s.next) (read_before n inside ∙ read_other n other))
        (ap (λ s. s.next) (read_before p within ∙ read_p)) (ap (λ s. s.next) read_fresh) first front h

  -- what linking in behind the last slot of the front makes
  pub record IsInserted (front rest : List SlotNumber) (previous : Option SlotNumber) : Type 0 where
    pub slots_are : IsLinked slots (linked slots first previous id) (fresh_in slots) id
    pub path : IsPath (linked slots first previous id) (linked_first slots first previous) (front ++ fresh_in slots ∷ rest)

  pub inserted : (front rest : List SlotNumber) (previous : Option SlotNumber) → last_of None front ≡ previous → IsPath slots first (front ++ rest)
      → IsInserted front rest previous
  inserted [] rest previous e h = subst (λ q. IsInserted [] rest q) e (record { slots_are = head_linked; path = path_at_head rest h })
  inserted (n ∷ front) rest previous e h =
      let z = ends None n front in
      let p : SlotNumber = z.1 in
      let parts : IsPath slots first (z.0 ++ p ∷ rest) = subst (λ l. IsPath slots first l) (ap (λ l. l ++ rest) z.2 ∙ append_assoc z.0 (p ∷ []) rest) h in
      let within = (path-append slots z.0 p rest first parts).0 in
      subst (λ q. IsInserted (n ∷ front) rest q) (sym z.3 ∙ e)
      (record {
        slots_are = behind_linked p within;
        path =
            subst (λ l. IsPath (linked slots first (Some p) id) first l) (sym (ap (λ l. l ++ fresh_in slots ∷ rest) z.2 ∙ append_assoc z.0 (p ∷ []) (fresh_in slots ∷ rest)))
            (path_behind p within z.0 rest parts);
      })
