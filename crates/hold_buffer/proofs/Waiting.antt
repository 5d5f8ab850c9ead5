-- The held operations, by their entries.
use Rattle.std.proofs.Common.{◌≡◌, ◌≢◌, ℕ, ◌<◌, ◌≤◌, inl, inr, zero, suc, List, [], ◌∷◌, ◌++◌, length, map, filter, take, drop, get_or, not, nat_lt, Result, Ok, Err, Bool, true, false, cond, Option, Some, None, Contains, refl, sym, ap, subst, ◌∙◌, arith, true≢false, Less, find}
use Rattle.std.specs.Prelude.{insert, is_some, IsTrue, IfSome, ◌↔◌}
use Rattle.std.specs.Option.{option_map}
use Rattle.std.specs.Bool.{Decides}
use Rattle.std.specs.List.{cons_option}
use Rattle.std.proofs.lemmas.Bool.{false_from_ne_true}
use Rattle.std.proofs.lemmas.List.{length-map, take-append-drop}
use Rattle.std.proofs.lemmas.List.Elements.{filter_map-append, filter-append, Contains-get_or, Contains-append_left, Contains-append_right, Contains-append_cases}
use Rattle.std.proofs.lemmas.Bool.Decides.{nat_tests}
use Rattle.doc_api.specs.Words.{Refusal, NoMemory, id_cmp, Id, Op}
use Rattle.json_scalar.specs.declared.refusal.Refusal.TheVariants.{IdConflict, HeldFull}
use Rattle.slab.specs.Slab.{Slab, get, Updates}
use Rattle.crdt_rules.specs.Same.{id_eq}
use Rattle.doc_rules.specs.Replica.{find_id}
use Rattle.crdt_rules.specs.Dependencies.{is_logged}
use Rattle.doc_rules.specs.Sorted.{IsRising}
use Rattle.list_laws.specs.Sorted.{IsIndexOf, IsGap}
use Rattle.list_laws.proofs.Members.{Contains-nil, Contains-here, Contains-there, Contains-cases, Contains-take, Contains-drop, Contains-insert_cases}
use Rattle.crdt_rules.proofs.SameLaws.{id_decides}
use Rattle.crdt_rules.proofs.Tests.{some_same, some≢none}
use Rattle.list_laws.proofs.Filters.{filter-failed}
use Rattle.crdt_rules.proofs.WalkLaws.{id_order}
use Rattle.list_laws.proofs.Keys.{less≢equal, not_less_back}
use Rattle.list_laws.proofs.Rising.{gap_none, keys_once, IsRising-insert, IsRising-split}
use Rattle.op_log.proofs.Ids.{find_id-Contains, find_id-Some, find_id-none, is_logged-find_id}
use Rattle.doc_rules.specs.Replica.{put_among}
use Rattle.hold_buffer.specs.Held.{hold_cause}
use Rattle.hold_buffer.specs.Order.{operations_of, IsOrdered}
use Rattle.hold_buffer.specs.declared.entry.Entry.{Entry}

-- each entry leads to the operation of its id
abbrev pub AreRight : Slab Op → List Entry → Type 0
AreRight slots order = (t : Entry) → Contains order t → (op : Op) × (get slots t.key ≡ Some op) × (op.id ≡ t.id)

tail_right : (slots : Slab Op) (t : Entry) (order : List Entry) → AreRight slots (t ∷ order) → AreRight slots order
tail_right slots t order right u c = right u (Contains-there t order c)

-- the first operation stands before the rest
operations-cons : (slots : Slab Op) (t : Entry) (order : List Entry) (op : Op) → get slots t.key ≡ Some op → operations_of slots (t ∷ order) ≡ op ∷ operations_of slots order
operations-cons slots t order op at = ap (λ (o : Option Op). cons_option o (operations_of slots order)) at

-- the ids of the operations are those of the entries
pub ids_of_operations : (slots : Slab Op) (order : List Entry) → AreRight slots order → map (λ o. o.id) (operations_of slots order) ≡ map (λ t. t.id) order
ids_of_operations slots [] right = refl
ids_of_operations slots (t ∷ order) right =
    let r = right t (Contains-here order refl) in
    ap (map (λ (o : Op). o.id)) (operations-cons slots t order r.0 r.1)
    ∙ (λ i. r.2 i ∷ ids_of_operations slots order (tail_right slots t order right) i)

pub length-operations : (slots : Slab Op) (order : List Entry) → AreRight slots order → length (operations_of slots order) ≡ length order
length-operations slots order right =
    sym (length-map (operations_of slots order) (λ o. o.id)) ∙ ap length (ids_of_operations slots order right) ∙ length-map order (λ t. t.id)

-- an operation is held by an entry
operations-from : (slots : Slab Op) (order : List Entry) → AreRight slots order → {op : Op} → Contains (operations_of slots order) op → (t : Entry) × Contains order t × (get slots t.key ≡ Some op)
operations-from slots [] right c = absurd (Contains-nil c)
operations-from slots (t ∷ order) right {op} c =
    let r = right t (Contains-here order refl) in
    let c' = subst (λ l. Contains l op) (operations-cons slots t order r.0 r.1) c in
    elim (Contains-cases r.0 (operations_of slots order) c') [
      | inl here ↦ (t, Contains-here order refl, r.1 ∙ ap (λ (o : Op). Some o) here)
      | inr there ↦ let u = operations-from slots order (tail_right slots t order right) there in (u.0, Contains-there t order u.1, u.2)
    ]

pub operations-at : (slots : Slab Op) (order : List Entry) → AreRight slots order → (t : Entry) (op : Op) → Contains order t → get slots t.key ≡ Some op → Contains (operations_of slots order) op
operations-at slots [] right t op c at = absurd (Contains-nil c)
operations-at slots (u ∷ order) right t op c at =
    let r = right u (Contains-here order refl) in
    subst (λ l. Contains l op) (sym (operations-cons slots u order r.0 r.1))
    (elim (Contains-cases u order c) [
      | inl here ↦ Contains-here (operations_of slots order) (some_same (sym r.1 ∙ subst (λ (v : Entry). get slots v.key ≡ Some op) (sym here) at))
      | inr there ↦ Contains-there r.0 (operations_of slots order) (operations-at slots order (tail_right slots u order right) t op there at)
    ])

-- the id of an operation is that of its entry
pub entry_id : (slots : Slab Op) (order : List Entry) → AreRight slots order → (t : Entry) (op : Op) → Contains order t → get slots t.key ≡ Some op → op.id ≡ t.id
entry_id slots order right t op c at = let r = right t c in ap (λ (o : Op). o.id) (some_same (sym at ∙ r.1)) ∙ r.2

pub rising-operations : (slots : Slab Op) (order : List Entry) → IsOrdered slots order → IsRising id_cmp (λ o. o.id) (operations_of slots order)
rising-operations slots order is = go order is.rising is.right
  where
    go : (ts : List Entry) → IsRising id_cmp (λ t. t.id) ts → AreRight slots ts → IsRising id_cmp (λ o. o.id) (operations_of slots ts)
    go [] rising right = tt
    go (t ∷ ts) rising right =
        let r = right t (Contains-here ts refl) in
        subst (IsRising id_cmp (λ o. o.id)) (sym (operations-cons slots t ts r.0 r.1)) (
          (λ o c.
              let u = operations-from slots ts (tail_right slots t ts right) c in
              let less = rising.0 u.0 u.1 in
              subst (λ i. id_cmp i o.id ≡ Less) (sym r.2)
              (subst (λ i. id_cmp t.id i ≡ Less) (sym (entry_id slots ts (tail_right slots t ts right) u.0 o u.1 u.2)) less)),
          go ts rising.1 (tail_right slots t ts right),
        )

-- within a list the default does not matter
pub read_within : (xs : List Entry) (i : ℕ) (c d : Entry) → i < length xs → get_or xs i c ≡ get_or xs i d
read_within [] i c d within = absurd (omega arith)
read_within (x ∷ xs) zero c d within = refl
read_within (x ∷ xs) (suc i) c d within = read_within xs i c d (omega arith)

module _ {slots : Slab Op} {order : List Entry} (is : IsOrdered slots order) where
  -- a place leads to the operation of its id
  pub found_at : (id : Id) (i : ℕ) (t : Entry) → IsIndexOf id_cmp (λ u. u.id) order id i → t ≡ get_or order i t → get slots t.key ≡ find_id (operations_of slots order) id
  found_at id i t place read =
      let among : Contains order t = subst (Contains order) (sym read) (Contains-get_or order i t place.within) in
      let r = is.right t among in
      let name : (r.0).id ≡ id = r.2 ∙ ap (λ (u : Entry). u.id) read ∙ place.has_key t in
      r.1 ∙ sym (find_id-Contains (operations_of slots order) id (keys_once id_order (λ o. o.id) (operations_of slots order) (rising-operations slots order is))
      (operations-at slots order is.right t r.0 among r.1) name)

  pub not_found : (id : Id) (i : ℕ) → IsGap id_cmp (λ u. u.id) order id i → find_id (operations_of slots order) id ≡ None
  not_found id i gap =
      find_id-none (operations_of slots order) id
      (λ o c same.
      let u = operations-from slots order is.right c in
      gap_none id_order (λ t. t.id) order id i gap u.0 u.1 (sym (entry_id slots order is.right u.0 o u.1 u.2) ∙ same))

  pub held_at : (id : Id) (i : ℕ) → IsIndexOf id_cmp (λ u. u.id) order id i → is_logged (operations_of slots order) id ≡ true
  held_at id i place =
      let t = get_or order i (record { id = id; key = 0; missing = [] }) in
      let r = is.right t (Contains-get_or order i (record { id = id; key = 0; missing = [] }) place.within) in
      let first : get_or order i t ≡ t = read_within order i t (record { id = id; key = 0; missing = [] }) place.within in
      is_logged-find_id (operations_of slots order) id ∙ ap (λ (o : Option Op). is_some o) (sym (found_at id i t place (sym first)) ∙ r.1)

  pub not_held : (id : Id) (i : ℕ) → IsGap id_cmp (λ u. u.id) order id i → is_logged (operations_of slots order) id ≡ false
  not_held id i gap = is_logged-find_id (operations_of slots order) id ∙ ap (λ (o : Option Op). is_some o) (not_found id i gap)

-- ---- changes

-- entries whose slots stay lead to the same operations
operations-same : (old new : Slab Op) (order : List Entry) → ((t : Entry) → Contains order t → get new t.key ≡ get old t.key) → operations_of new order ≡ operations_of old order
operations-same old new [] same = refl
operations-same old new (t ∷ order) same =
    λ i. cons_option (same t (Contains-here order refl) i) (operations-same old new order (λ u c. same u (Contains-there t order c)) i)

-- an operation goes behind those of smaller ids, and in front of those of greater ids
put-between : (us vs : List Op) (op : Op) → ((o : Op) → Contains us o → id_cmp o.id op.id ≡ Less) → ((o : Op) → Contains vs o → id_cmp op.id o.id ≡ Less)
    → put_among op (us ++ vs) ≡ us ++ op ∷ vs
put-between [] [] op below above = refl
put-between [] (v ∷ vs) op below above = rw (above v (Contains-here vs refl)) refl
put-between (u ∷ us) vs op below above =
    rw (not_less_back id_order u.id op.id (below u (Contains-here us refl)))
    (ap (λ l. u ∷ l) (put-between us vs op (λ o c. below o (Contains-there u us c)) above))

module _ {old new : Slab Op} {order : List Entry} (is : IsOrdered old order) (op : Op) (key i : ℕ) (ids : List Id)
    (gap : IsGap id_cmp (λ t. t.id) order op.id i) (vacant : get old key ≡ None) (updates : Updates old new key (Some op)) where
  abbrev added : Entry
  added = record { id = op.id; key = key; missing = ids }

  others_stay : (t : Entry) → Contains order t → get new t.key ≡ get old t.key
  others_stay t c =
      let r = is.right t c in
      updates.others t.key (λ same. some≢none (sym r.1 ∙ ap (get old) same ∙ vacant))

  part_right : (part : List Entry) → ((t : Entry) → Contains part t → Contains order t) → AreRight old part
  part_right part within t c = is.right t (within t c)

  below : (o : Op) → Contains (operations_of old (take i order)) o → id_cmp o.id op.id ≡ Less
  below o c =
      let right = part_right (take i order) (λ t h. Contains-take i order h) in
      let u = operations-from old (take i order) right c in
      subst (λ j. id_cmp j op.id ≡ Less) (sym (entry_id old (take i order) right u.0 o u.1 u.2)) (gap.smaller_before u.0 u.1)

  above : (o : Op) → Contains (operations_of old (drop i order)) o → id_cmp op.id o.id ≡ Less
  above o c =
      let right = part_right (drop i order) (λ t h. Contains-drop i order h) in
      let u = operations-from old (drop i order) right c in
      subst (λ j. id_cmp op.id j ≡ Less) (sym (entry_id old (drop i order) right u.0 o u.1 u.2)) (gap.greater_behind u.0 u.1)

  -- one more operation, under a key that was free
  pub operations-insert : operations_of new (insert order i (record { id = op.id; key = key; missing = ids })) ≡ put_among op (operations_of old order)
  operations-insert =
      let before : operations_of new (take i order) ≡ operations_of old (take i order) =
      operations-same old new (take i order) (λ t c. others_stay t (Contains-take i order c)) in
      let behind : operations_of new (drop i order) ≡ operations_of old (drop i order) =
      operations-same old new (drop i order) (λ t c. others_stay t (Contains-drop i order c)) in
      filter_map-append (λ t. get new t.key) (take i order) (added ∷ drop i order)
      ∙ (λ j. before j ++ cons_option (updates.changed j) (behind j))
      ∙ sym (put-between (operations_of old (take i order)) (operations_of old (drop i order)) op below above)
      ∙ ap (put_among op) (sym (filter_map-append (λ t. get old t.key) (take i order) (drop i order)) ∙ ap (operations_of old) (take-append-drop i order))

  pub IsOrdered-insert : IsOrdered new (insert order i (record { id = op.id; key = key; missing = ids }))
  IsOrdered-insert = record {
    rising = IsRising-insert id_order (λ t. t.id) order i added is.rising gap;
    right = λ t c.
        elim (Contains-insert_cases order i added c) [
          | inl here ↦ (op, subst (λ (u : Entry). get new u.key ≡ Some op) here updates.changed, ap (λ (u : Entry). u.id) here)
          | inr there ↦ let r = is.right t there in (r.0, others_stay t there ∙ r.1, r.2)
        ];
  }

-- those of other ids
pub others_kept : {X : Type 0} (name : X → Id) (id : Id) (xs : List X) → ((x : X) → Contains xs x → name x ≢ id) → filter (λ x. not (id_eq (name x) id)) xs ≡ xs
others_kept name id [] other = refl
others_kept name id (x ∷ xs) other =
    rw (false_from_ne_true (id_eq (name x) id) (λ h. other x (Contains-here xs refl) (id_decides.same (name x) id h)))
    (ap (λ l. x ∷ l) (others_kept name id xs (λ o c. other o (Contains-there x xs c))))

module _ {old new : Slab Op} (us vs : List Entry) (t : Entry) (is : IsOrdered old (us ++ t ∷ vs)) (updates : Updates old new t.key None) where
  parts : ((u : Entry) → Contains us u → id_cmp u.id t.id ≡ Less) × ((v : Entry) → Contains vs v → id_cmp t.id v.id ≡ Less) × IsRising id_cmp (λ u. u.id) (us ++ vs)
  parts = IsRising-split id_order (λ u. u.id) us vs t is.rising

  among : (u : Entry) → Contains (us ++ vs) u → Contains (us ++ t ∷ vs) u
  among u c =
      elim (Contains-append_cases us vs u c) [
        | inl left ↦ Contains-append_left us (t ∷ vs) u left
        | inr right ↦ Contains-append_right us (t ∷ vs) u (Contains-there t vs right)
      ]

  other_id : (u : Entry) → Contains (us ++ vs) u → u.id ≢ t.id
  other_id u c =
      elim (Contains-append_cases us vs u c) [
        | inl left ↦ less≢equal id_order u.id t.id (parts.0 u left)
        | inr right ↦ (λ same. less≢equal id_order t.id u.id (parts.1 u right) (sym same))
      ]

  stays : (u : Entry) → Contains (us ++ vs) u → get new u.key ≡ get old u.key
  stays u c =
      let r = is.right u (among u c) in
      let first = is.right t (Contains-append_right us (t ∷ vs) t (Contains-here vs refl)) in
      updates.others u.key
      (λ same.
      let one : r.0 ≡ first.0 = some_same (sym r.1 ∙ ap (get old) same ∙ first.1) in
      other_id u c (sym r.2 ∙ ap (λ (o : Op). o.id) one ∙ first.2))

  kept_right : AreRight old (us ++ vs)
  kept_right u c = is.right u (among u c)

  -- the operation of the entry is gone
  pub operations-remove : operations_of new (us ++ vs) ≡ filter (λ o. not (id_eq o.id t.id)) (operations_of old (us ++ t ∷ vs))
  operations-remove =
      let first = is.right t (Contains-append_right us (t ∷ vs) t (Contains-here vs refl)) in
      let test : Op → Bool = λ o. not (id_eq o.id t.id) in
      let whole : operations_of old (us ++ t ∷ vs) ≡ operations_of old us ++ first.0 ∷ operations_of old vs =
      filter_map-append (λ u. get old u.key) us (t ∷ vs) ∙ ap (λ l. operations_of old us ++ l) (operations-cons old t vs first.0 first.1) in
      let gone : filter test (first.0 ∷ operations_of old vs) ≡ filter test (operations_of old vs) =
      rw (subst (λ i. id_eq (first.0).id i ≡ true) first.2 (id_decides.itself (first.0).id)) refl in
      let rest : operations_of old (us ++ vs) ≡ operations_of old us ++ operations_of old vs = filter_map-append (λ u. get old u.key) us vs in
      operations-same old new (us ++ vs) stays
      ∙ sym (others_kept (λ (o : Op). o.id) t.id (operations_of old (us ++ vs))
      (λ o c.
      let u = operations-from old (us ++ vs) kept_right c in
      λ same. other_id u.0 u.1 (sym (entry_id old (us ++ vs) kept_right u.0 o u.1 u.2) ∙ same)))
      ∙ ap (filter test) rest
      ∙ filter-append test (operations_of old us) (operations_of old vs)
      ∙ ap (λ l. filter test (operations_of old us) ++ l) (sym gone)
      ∙ sym (filter-append test (operations_of old us) (first.0 ∷ operations_of old vs))
      ∙ ap (filter test) (sym whole)

  -- and so is the entry
  pub entries-remove : us ++ vs ≡ filter (λ u. not (id_eq u.id t.id)) (us ++ t ∷ vs)
  entries-remove =
      let test : Entry → Bool = λ u. not (id_eq u.id t.id) in
      sym (others_kept (λ (u : Entry). u.id) t.id (us ++ vs) other_id)
      ∙ filter-append test us vs
      ∙ sym (filter-failed test us t vs (ap not (id_decides.itself t.id)))

  pub IsOrdered-remove : IsOrdered new (us ++ vs)
  IsOrdered-remove = record {
    rising = parts.2;
    right = λ u c. let r = is.right u (among u c) in (r.0, stays u c ∙ r.1, r.2);
  }

-- an id that is not held takes nothing away
pub none_removed : {slots : Slab Op} {order : List Entry} → IsOrdered slots order → (id : Id) (i : ℕ) → IsGap id_cmp (λ u. u.id) order id i
    → operations_of slots order ≡ filter (λ o. not (id_eq o.id id)) (operations_of slots order)
none_removed {slots} {order} is id i gap =
    sym (others_kept (λ (o : Op). o.id) id (operations_of slots order)
    (λ o c same.
    let u = operations-from slots order is.right c in
    gap_none id_order (λ t. t.id) order id i gap u.0 u.1 (sym (entry_id slots order is.right u.0 o u.1 u.2) ∙ same)))

-- ---- the cause against holding an operation

pub hold_cause-taken : (id : Id) (held : List Op) → is_logged held id ≡ true → hold_cause id held ≡ Err IdConflict
hold_cause-taken id held taken = rw taken refl

pub hold_cause-full : (id : Id) (held : List Op) → is_logged held id ≡ false → 256 ≤ length held → hold_cause id held ≡ Err HeldFull
hold_cause-full id held free full =
    let no_room : nat_lt (length held) 256 ≡ false = grind (arith, nat_tests) in
    rw (free, no_room) refl

pub hold_cause-none : (id : Id) (held : List Op) → is_logged held id ≡ false → length held < 256 → hold_cause id held ≡ Ok tt
hold_cause-none id held free room =
    let some_room : nat_lt (length held) 256 ≡ true = grind (arith, nat_tests) in
    rw (free, some_room) refl

-- the first that passes has this id
pub record IsFirst (p : Op → Bool) (held : List Op) (id : Id) : Type 0 where
  pub op : Op
  pub name : op.id ≡ id
  pub found : find p held ≡ Some op

find-Contains : (p : Op → Bool) (held : List Op) (op : Op) → find p held ≡ Some op → Contains held op
find-Contains p [] op found = absurd (some≢none (sym found))
find-Contains p (x ∷ held) op found = by (p x) found (find-Contains p held op)
  where
    by : (b : Bool) → cond b (Some x) (find p held) ≡ Some op → (find p held ≡ Some op → Contains held op) → Contains (x ∷ held) op
    by true h ih = Contains-here held (some_same h)
    by false h ih = Contains-there x held (ih h)

pub first_operation : (p : Op → Bool) (held : List Op) (id : Id) → IsRising id_cmp (λ o. o.id) held → IsFirst p held id → find_id held id ≡ find p held
first_operation p held id rising first =
    find_id-Contains held id (keys_once id_order (λ o. o.id) held rising) (find-Contains p held first.op first.found) first.name ∙ sym first.found

-- ---- look-ups

-- whether the operation that was found is the one that was asked for
pub same_as_found : (held : List Op) (op x : Op) (b : Bool) → IsRising id_cmp (λ o. o.id) held → Some x ≡ find_id held op.id → Decides b (x ≡ op) → IsTrue b ↔ Contains held op
same_as_found held op x b rising found decides = (
  (λ same. subst (Contains held) (decides.0 same) (find_id-Some held op.id x (sym found)).0),
  (λ c. decides.1 (some_same (found ∙ find_id-Contains held op.id (keys_once id_order (λ o. o.id) held rising) c refl))),
)

pub same_as_none : (held : List Op) (op : Op) → IsRising id_cmp (λ o. o.id) held → None ≡ find_id held op.id → IsTrue false ↔ Contains held op
same_as_none held op rising found = (
  (λ same. absurd (true≢false (sym same))),
  (λ c. absurd (some≢none (sym (found ∙ find_id-Contains held op.id (keys_once id_order (λ o. o.id) held rising) c refl)))),
)

-- an answer other than the expected one is out of memory
pub other_is_memory : {A : Type 0} (r : Result A Refusal) (e : Refusal) (x : A) → (r ≢ Err NoMemory → r ≡ Ok x) → r ≡ Err e → e ≢ NoMemory → ⊥
other_is_memory {A} r e x h is other =
    let due : r ≡ Ok x = h (λ f. other (let same : ◌≡◌ {A = Result A Refusal} (Err e) (Err NoMemory) = sym is ∙ f in cc)) in
    let no : ◌≡◌ {A = Result A Refusal} (Err e) (Ok x) = sym is ∙ due in
    cc

-- what holds of the first that passes, by its id
pub first_named : (p : Op → Bool) (held : List Op) (r : Option Id) → IsRising id_cmp (λ o. o.id) held → r ≡ option_map (λ o. o.id) (find p held)
    → IfSome r (λ id. find_id held id ≡ find p held)
first_named p held r rising is = by (find p held) refl r is
  where
    by : (f : Option Op) → find p held ≡ f → (r : Option Id) → r ≡ option_map (λ o. o.id) f → IfSome r (λ id. find_id held id ≡ find p held)
    by None e None is = tt
    by None e (Some i) is = absurd (some≢none is)
    by (Some o) e None is = absurd (some≢none (sym is))
    by (Some o) e (Some i) is = first_operation p held i rising (record { op = o; name = sym (some_same is); found = e })

-- an id of no entry is that of no operation
pub no_held : {slots : Slab Op} {order : List Entry} → IsOrdered slots order → (id : Id) (i : ℕ) → IsGap id_cmp (λ u. u.id) order id i
    → (o : Op) → Contains (operations_of slots order) o → o.id ≢ id
no_held {slots} {order} is id i gap o c same =
    let u = operations-from slots order is.right c in
    gap_none id_order (λ t. t.id) order id i gap u.0 u.1 (sym (entry_id slots order is.right u.0 o u.1 u.2) ∙ same)
