-- The ready ids are those of the entries that wait for nothing.
use Rattle.std.proofs.Common.{◌≡◌, ◌↔◌, ◌⊎◌, ◌<◌, ◌≤◌, ◌++◌, ◌∷◌, inl, inr, ℕ, List, [], map, filter, find, not, length, Bool, true, false, cond, Some, Contains, refl, sym, ap, subst, ◌∙◌, arith, true≢false, Less, length-append, take, drop, suc}
use Rattle.std.specs.Prelude.{insert, slice_get}
use Rattle.std.specs.Option.{option_map}
use Rattle.std.specs.Global.{Vec}
use Rattle.std.specs.Vec.{vec_capacity}
use Rattle.std.proofs.lemmas.List.{length-map}
use Rattle.std.proofs.lemmas.List.Edits.{length-insert}
use Rattle.std.proofs.lemmas.List.Elements.{filter-append, Contains-append_left, Contains-append_right, Contains-append_cases}
use Rattle.doc_api.specs.Words.{id_cmp, Id}
use Rattle.crdt_rules.specs.Same.{id_eq}
use Rattle.crdt_rules.proofs.WalkLaws.{id_order}
use Rattle.crdt_rules.proofs.SameLaws.{id_decides}
use Rattle.doc_rules.specs.Sorted.{IsRising}
use Rattle.list_laws.proofs.Members.{split_at, Contains-here, Contains-there, Contains-cases, Contains-map, map-from, Contains-insert_new, Contains-insert_old, Contains-insert_cases}
use Rattle.list_laws.proofs.Filters.{filter-Contains, Contains-filter, filter-failed, length-filter}
use Rattle.list_laws.specs.Sorted.{IsIndexOf, IsGap}
use Rattle.list_laws.proofs.Keys.{less≢equal}
use Rattle.list_laws.proofs.Rising.{rising-filter, rising_same, gap_none, IsRising-split}
use Rattle.hold_buffer.specs.Order.{is_free, ListsFree}
use Rattle.hold_buffer.specs.declared.entry.Entry.{Entry}
use Rattle.hold_buffer.proofs.Waiting.{others_kept}

-- ---- what they are

rising-ids : (ts : List Entry) → IsRising id_cmp (λ t. t.id) ts → IsRising id_cmp (λ i. i) (map {B = Id} (λ t. t.id) ts)
rising-ids [] rising = tt
rising-ids (t ∷ ts) rising = (
  (λ i c. let r = map-from (λ (u : Entry). u.id) ts c in subst (λ (j : Id). id_cmp t.id j ≡ Less) r.2 (rising.0 r.0 r.1)),
  rising-ids ts rising.1,
)

pub ready_ids : {order : List Entry} {ready : Vec Id} → IsRising id_cmp (λ t. t.id) order → ListsFree order ready → ready.items ≡ map (λ t. t.id) (filter is_free order)
ready_ids {order} {ready} rising is =
    rising_same id_order (λ (i : Id). i) ready.items (map (λ (t : Entry). t.id) (filter is_free order)) is.rising
    (rising-ids (filter is_free order) (rising-filter id_cmp (λ (t : Entry). t.id) is_free order rising))
    (λ i c.
    let r = is.free i c in
    subst (Contains (map (λ (t : Entry). t.id) (filter is_free order))) r.2 (Contains-map (λ (t : Entry). t.id) (filter is_free order) (Contains-filter is_free order r.1 r.3)))
    (λ i c.
    let r = map-from (λ (t : Entry). t.id) (filter is_free order) c in
    let s = filter-Contains is_free order r.1 in
    subst (Contains ready.items) r.2 (is.all r.0 s.0 s.1))

-- the first of what passes is found first
first-passed : (p : Entry → Bool) (order : List Entry) → slice_get (map {B = Id} (λ t. t.id) (filter p order)) 0 ≡ option_map (λ t. t.id) (find p order)
first-passed p [] = refl
first-passed p (t ∷ order) = by (p t) (first-passed p order)
  where
    by : (b : Bool) → slice_get (map {B = Id} (λ u. u.id) (filter p order)) 0 ≡ option_map (λ u. u.id) (find p order)
        → slice_get (map {B = Id} (λ u. u.id) (cond b (t ∷ filter p order) (filter p order))) 0 ≡ option_map (λ u. u.id) (cond b (Some t) (find p order))
    by true ih = refl
    by false ih = ih

pub least_ready : {order : List Entry} {ready : Vec Id} → IsRising id_cmp (λ t. t.id) order → ListsFree order ready
    → slice_get ready.items 0 ≡ option_map (λ t. t.id) (find is_free order)
least_ready {order} {ready} rising is = ap (λ (l : List Id). slice_get l 0) (ready_ids rising is) ∙ first-passed is_free order

-- ---- how many

pub ready_few : {order : List Entry} {ready : Vec Id} → IsRising id_cmp (λ t. t.id) order → ListsFree order ready → length ready.items ≤ length order
ready_few {order} {ready} rising is =
    let one = ap length (ready_ids rising is) in
    let two = length-map (filter is_free order) (λ t. t.id) in
    omega (arith, one, two, length-filter is_free order)

-- one that waits is not among them
pub waiting_more : (us vs : List Entry) (t : Entry) {ready : Vec Id} → IsRising id_cmp (λ t. t.id) (us ++ t ∷ vs) → ListsFree (us ++ t ∷ vs) ready → is_free t ≡ false
    → length ready.items < length (us ++ t ∷ vs)
waiting_more us vs t {ready} rising is waits =
    let one = ap length (ready_ids rising is) in
    let two = length-map (filter is_free (us ++ t ∷ vs)) (λ u. u.id) in
    let three = ap length (filter-failed is_free us t vs waits) in
    let four = length-append (filter is_free us) (filter is_free vs) in
    let five = length-append us (t ∷ vs) in
    omega (arith, one, two, three, four, five, length-filter is_free us, length-filter is_free vs)

-- ---- changes

-- an entry that waited takes another form, and is ready if it waits for nothing now
pub ready-changed : {ready new : Vec Id} (us vs : List Entry) (t u : Entry) → ListsFree (us ++ t ∷ vs) ready → is_free t ≡ false → u.id ≡ t.id → IsRising id_cmp (λ i. i) new.items
    → ((i : Id) → Contains new.items i ↔ (((is_free u ≡ true) × (i ≡ t.id)) ⊎ Contains ready.items i)) → vec_capacity ready ≤ vec_capacity new → ListsFree (us ++ u ∷ vs) new
ready-changed {ready} {new} us vs t u is waits name rising members room = record {
  rising = rising;
  free = λ i c.
      elim ((members i).0 c) [
        | inl one ↦ (u, Contains-append_right us (u ∷ vs) u (Contains-here vs refl), name ∙ sym one.1, one.0)
        | inr old ↦ let r = is.free i old in (r.0, kept r.0 r.1 r.3, r.2, r.3)
      ];
  all = λ x c free.
      elim (Contains-append_cases us (u ∷ vs) x c) [
        | inl left ↦ (members x.id).1 (inr (is.all x (Contains-append_left us (t ∷ vs) x left) free))
        | inr right ↦ elim (Contains-cases u vs right) [
          | inl here ↦ (members x.id).1 (inl (subst (λ (y : Entry). is_free y ≡ true) (sym here) free, ap (λ (y : Entry). y.id) (sym here) ∙ name))
          | inr there ↦ (members x.id).1 (inr (is.all x (Contains-append_right us (t ∷ vs) x (Contains-there t vs there)) free))
        ]
      ];
  room =
      let before = length-append us (t ∷ vs) in
      let after = length-append us (u ∷ vs) in
      omega (arith, before, after, is.room, room);
}
  where
    kept : (x : Entry) → Contains (us ++ t ∷ vs) x → is_free x ≡ true → Contains (us ++ u ∷ vs) x
    kept x c free =
        elim (Contains-append_cases us (t ∷ vs) x c) [
          | inl left ↦ Contains-append_left us (u ∷ vs) x left
          | inr right ↦ elim (Contains-cases t vs right) [
            | inl here ↦ absurd (true≢false (sym free ∙ ap is_free (sym here) ∙ waits))
            | inr there ↦ Contains-append_right us (u ∷ vs) x (Contains-there u vs there)
          ]
        ]

-- one more is held
pub ready-held : {ready new : Vec Id} {order : List Entry} (at : ℕ) (t : Entry) → ListsFree order ready → at ≤ length order → IsRising id_cmp (λ i. i) new.items
    → ((i : Id) → Contains new.items i ↔ (((is_free t ≡ true) × (i ≡ t.id)) ⊎ Contains ready.items i)) → length order < vec_capacity new → ListsFree (insert order at t) new
ready-held {ready} {new} {order} at t is within rising members room = record {
  rising = rising;
  free = λ i c.
      elim ((members i).0 c) [
        | inl one ↦ (t, Contains-insert_new order at t, sym one.1, one.0)
        | inr old ↦ let r = is.free i old in (r.0, Contains-insert_old order at t r.1, r.2, r.3)
      ];
  all = λ x c free.
      elim (Contains-insert_cases order at t c) [
        | inl here ↦ (members x.id).1 (inl (subst (λ (y : Entry). is_free y ≡ true) (sym here) free, ap (λ (y : Entry). y.id) (sym here)))
        | inr old ↦ (members x.id).1 (inr (is.all x old free))
      ];
  room = omega (arith, length-insert order at t within, room);
}

-- what is left when the id at a place goes
pub without_place : (ids : List Id) (id : Id) (at : ℕ) → IsRising id_cmp (λ i. i) ids → IsIndexOf id_cmp (λ i. i) ids id at
    → take at ids ++ drop (suc at) ids ≡ filter (λ i. not (id_eq i id)) ids
without_place ids id at rising place =
    let test : Id → Bool = λ i. not (id_eq i id) in
    let us = take at ids in
    let vs = drop (suc at) ids in
    let whole = split_at ids at id place.within (sym (place.has_key id)) in
    let parts = IsRising-split id_order (λ (i : Id). i) us vs id (subst (IsRising id_cmp (λ (i : Id). i)) (sym whole) rising) in
    sym (others_kept (λ (i : Id). i) id (us ++ vs)
    (λ i c.
    elim (Contains-append_cases us vs i c) [
      | inl left ↦ less≢equal id_order i id (parts.0 i left)
      | inr right ↦ (λ same. less≢equal id_order id i (parts.1 i right) (sym same))
    ]))
    ∙ filter-append test us vs
    ∙ sym (filter-failed test us id vs (ap not (id_decides.itself id)))
    ∙ ap (filter test) whole

-- an id that is not there takes nothing away
pub without_gap : (ids : List Id) (id : Id) (at : ℕ) → IsGap id_cmp (λ i. i) ids id at → ids ≡ filter (λ i. not (id_eq i id)) ids
without_gap ids id at gap = sym (others_kept (λ (i : Id). i) id ids (gap_none id_order (λ (i : Id). i) ids id at gap))

-- one is dropped
pub ready-removed : {ready new : Vec Id} {order : List Entry} (id : Id) → ListsFree order ready → new.items ≡ filter (λ i. not (id_eq i id)) ready.items
    → vec_capacity new ≡ vec_capacity ready → ListsFree (filter (λ t. not (id_eq t.id id)) order) new
ready-removed {ready} {new} {order} id is items room = record {
  rising = subst (IsRising id_cmp (λ (i : Id). i)) (sym items) (rising-filter id_cmp (λ (i : Id). i) (λ i. not (id_eq i id)) ready.items is.rising);
  free = λ i c.
      let s = filter-Contains (λ (j : Id). not (id_eq j id)) ready.items (subst (λ (l : List Id). Contains l i) items c) in
      let r = is.free i s.0 in (
        r.0,
        Contains-filter (λ (t : Entry). not (id_eq t.id id)) order r.1 (subst (λ (j : Id). not (id_eq j id) ≡ true) (sym r.2) s.1),
        r.2,
        r.3,
      );
  all = λ x c free.
      let s = filter-Contains (λ (t : Entry). not (id_eq t.id id)) order c in
      subst (λ (l : List Id). Contains l x.id) (sym items) (Contains-filter (λ (j : Id). not (id_eq j id)) ready.items (is.all x s.0 free) s.1);
  room = omega (arith, length-filter (λ (t : Entry). not (id_eq t.id id)) order, is.room, room);
}

-- more room changes nothing
pub ready-grown : {ready new : Vec Id} {order later : List Entry} → ListsFree order ready → new.items ≡ ready.items → vec_capacity ready ≤ vec_capacity new → later ≡ order → ListsFree later new
ready-grown {ready} {new} {order} {later} is items room same =
    subst (λ (ts : List Entry). ListsFree ts new) (sym same)
    (record {
      rising = subst (IsRising id_cmp (λ (i : Id). i)) (sym items) is.rising;
      free = λ i c. is.free i (subst (λ (l : List Id). Contains l i) items c);
      all = λ x c free. subst (λ (l : List Id). Contains l x.id) (sym items) (is.all x c free);
      room = omega (arith, is.room, room);
    })
