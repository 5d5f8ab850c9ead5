-- What the entries wait for.
use Rattle.std.proofs.Common.{◌≡◌, ◌≢◌, ◌++◌, ◌∷◌, ◌↔◌, inl, inr, ℕ, List, [], map, filter, not, Bool, true, false, cond, Contains, refl, sym, ap, subst, ◌∙◌}
use Rattle.std.specs.Prelude.{insert}
use Rattle.std.proofs.lemmas.List.Elements.{filter-append, Contains-append_left, Contains-append_right, Contains-append_cases}
use Rattle.list_laws.proofs.Members.{Contains-nil, Contains-here, Contains-there, Contains-cases, Contains-map, map-from, Contains-insert_new, Contains-insert_old, Contains-insert_cases}
use Rattle.doc_api.specs.Words.{id_cmp, Id}
use Rattle.crdt_rules.specs.Same.{id_eq}
use Rattle.crdt_rules.proofs.WalkLaws.{id_order}
use Rattle.doc_rules.specs.Sorted.{IsRising}
use Rattle.list_laws.specs.Sorted.{IsGap}
use Rattle.list_laws.proofs.Keys.{less≢equal}
use Rattle.list_laws.proofs.Rising.{gap_none}
use Rattle.hold_buffer.specs.Held.{Wait}
use Rattle.hold_buffer.specs.Order.{waits_of, waits_for, wait_of, without_id}
use Rattle.hold_buffer.specs.declared.entry.Entry.{Entry}

-- what an entry lacks is waited for
pub waits-at : (order : List Entry) {t : Entry} → Contains order t → (i : Id) → Contains t.missing i → Contains (waits_of order) (wait_of i t.id)
waits-at [] c i lacked = absurd (Contains-nil c)
waits-at (u ∷ order) {t} c i lacked =
    elim (Contains-cases u order c) [
      | inl here ↦
          Contains-append_left (waits_for u.missing u.id) (waits_of order) (wait_of i t.id)
          (subst (λ (v : Entry). Contains (waits_for v.missing v.id) (wait_of i t.id)) (sym here) (Contains-map (λ (j : Id). wait_of j t.id) t.missing lacked))
      | inr there ↦ Contains-append_right (waits_for u.missing u.id) (waits_of order) (wait_of i t.id) (waits-at order there i lacked)
    ]

-- and nothing else
pub waits-from : (order : List Entry) {w : Wait} → Contains (waits_of order) w → (t : Entry) × Contains order t × Contains t.missing w.awaited × (t.id ≡ w.waiter)
waits-from [] c = absurd (Contains-nil c)
waits-from (u ∷ order) {w} c =
    elim (Contains-append_cases (waits_for u.missing u.id) (waits_of order) w c) [
      | inl left ↦
          let r = map-from (λ (j : Id). wait_of j u.id) u.missing left in
          (u, Contains-here order refl, subst (Contains u.missing) (ap (λ (v : Wait). v.awaited) r.2) r.1, ap (λ (v : Wait). v.waiter) r.2)
      | inr right ↦ let r = waits-from order right in (r.0, Contains-there u order r.1, r.2, r.3)
    ]

-- an id has one entry
pub same_entry : (order : List Entry) → IsRising id_cmp (λ t. t.id) order → {t u : Entry} → Contains order t → Contains order u → t.id ≡ u.id → t ≡ u
same_entry [] rising c d same = absurd (Contains-nil c)
same_entry (x ∷ order) rising {t} {u} c d same =
    elim (Contains-cases x order c) [
      | inl here ↦ elim (Contains-cases x order d) [
        | inl again ↦ sym here ∙ again
        | inr there ↦ absurd (less≢equal id_order x.id u.id (rising.0 u there) (ap (λ (v : Entry). v.id) here ∙ same))
      ]
      | inr there ↦ elim (Contains-cases x order d) [
        | inl here ↦ absurd (less≢equal id_order x.id t.id (rising.0 t there) (ap (λ (v : Entry). v.id) here ∙ sym same))
        | inr again ↦ same_entry order rising.1 there again same
      ]
    ]

-- ---- an id is lacked no more

forgotten-for : (id : Id) (ids : List Id) (waiter : Id) → waits_for (filter (λ i. not (id_eq i id)) ids) waiter ≡ filter (λ w. not (id_eq w.awaited id)) (waits_for ids waiter)
forgotten-for id [] waiter = refl
forgotten-for id (i ∷ ids) waiter = by (not (id_eq i id)) (forgotten-for id ids waiter)
  where
    by : (b : Bool) → waits_for (filter (λ j. not (id_eq j id)) ids) waiter ≡ filter (λ w. not (id_eq w.awaited id)) (waits_for ids waiter)
        → waits_for (cond b (i ∷ filter (λ j. not (id_eq j id)) ids) (filter (λ j. not (id_eq j id)) ids)) waiter
        ≡ cond b (wait_of i waiter ∷ filter (λ w. not (id_eq w.awaited id)) (waits_for ids waiter)) (filter (λ w. not (id_eq w.awaited id)) (waits_for ids waiter))
    by true ih = ap (λ l. wait_of i waiter ∷ l) ih
    by false ih = ih

pub waits-without : (id : Id) (order : List Entry) → waits_of (map (without_id id) order) ≡ filter (λ w. not (id_eq w.awaited id)) (waits_of order)
waits-without id [] = refl
waits-without id (t ∷ order) =
    (λ i. forgotten-for id t.missing t.id i ++ waits-without id order i) ∙ sym (filter-append (λ w. not (id_eq w.awaited id)) (waits_for t.missing t.id) (waits_of order))

-- ---- an entry goes

others_for : (id : Id) (ids : List Id) (waiter : Id) (b : Bool) → not (id_eq waiter id) ≡ b → filter (λ w. not (id_eq w.waiter id)) (waits_for ids waiter) ≡ cond b (waits_for ids waiter) []
others_for id [] waiter true h = refl
others_for id [] waiter false h = refl
others_for id (i ∷ ids) waiter true h = rw h (ap (λ l. wait_of i waiter ∷ l) (others_for id ids waiter true h))
others_for id (i ∷ ids) waiter false h = rw h (others_for id ids waiter false h)

pub waits-removed : (id : Id) (order : List Entry) → waits_of (filter (λ t. not (id_eq t.id id)) order) ≡ filter (λ w. not (id_eq w.waiter id)) (waits_of order)
waits-removed id [] = refl
waits-removed id (t ∷ order) =
    by (not (id_eq t.id id)) refl (waits-removed id order) ∙ sym (filter-append (λ w. not (id_eq w.waiter id)) (waits_for t.missing t.id) (waits_of order))
  where
    by : (b : Bool) → not (id_eq t.id id) ≡ b → waits_of (filter (λ u. not (id_eq u.id id)) order) ≡ filter (λ w. not (id_eq w.waiter id)) (waits_of order)
        → waits_of (cond b (t ∷ filter (λ u. not (id_eq u.id id)) order) (filter (λ u. not (id_eq u.id id)) order))
        ≡ filter (λ w. not (id_eq w.waiter id)) (waits_for t.missing t.id) ++ filter (λ w. not (id_eq w.waiter id)) (waits_of order)
    by true h ih = (λ i. sym (others_for id t.missing t.id true h) i ++ ih i)
    by false h ih = ih ∙ (λ i. sym (others_for id t.missing t.id false h) i ++ filter (λ w. not (id_eq w.waiter id)) (waits_of order))

-- ---- one more entry

pub waits-insert : (order : List Entry) (at : ℕ) (t : Entry) (w : Wait) → Contains (waits_of (insert order at t)) w ↔ Contains (waits_of order ++ waits_for t.missing t.id) w
waits-insert order at t w = (
  (λ c.
      let r = waits-from (insert order at t) c in
      elim (Contains-insert_cases order at t r.1) [
        | inl here ↦
            Contains-append_right (waits_of order) (waits_for t.missing t.id) w
            (subst (λ (v : Entry). Contains (waits_for v.missing v.id) w) (sym here)
            (subst (λ (n : Id). Contains (waits_for (r.0).missing (r.0).id) (wait_of w.awaited n)) r.3 (Contains-map (λ (j : Id). wait_of j (r.0).id) (r.0).missing r.2)))
        | inr old ↦
            Contains-append_left (waits_of order) (waits_for t.missing t.id) w
            (subst (λ (n : Id). Contains (waits_of order) (wait_of w.awaited n)) r.3 (waits-at order old w.awaited r.2))
      ]),
  (λ c.
      elim (Contains-append_cases (waits_of order) (waits_for t.missing t.id) w c) [
        | inl old ↦
            let r = waits-from order old in
            subst (λ (n : Id). Contains (waits_of (insert order at t)) (wait_of w.awaited n)) r.3 (waits-at (insert order at t) (Contains-insert_old order at t r.1) w.awaited r.2)
        | inr new ↦
            let r = map-from (λ (j : Id). wait_of j t.id) t.missing new in
            subst (Contains (waits_of (insert order at t))) r.2 (waits-at (insert order at t) (Contains-insert_new order at t) r.0 r.1)
      ]),
)

-- an id of no entry waits for nothing
pub no_waits : (order : List Entry) (id : Id) (at : ℕ) → IsGap id_cmp (λ t. t.id) order id at → (w : Wait) → Contains (waits_of order) w → w.waiter ≢ id
no_waits order id at gap w c same = let r = waits-from order c in gap_none id_order (λ t. t.id) order id at gap r.0 r.1 (r.3 ∙ same)
