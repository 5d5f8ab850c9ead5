-- What the buffer keeps of the log stays right.
use Rattle.std.proofs.Common.{◌≡◌, ◌≢◌, ◌++◌, ◌∷◌, length, ◌==◌, ◌||◌, ◌↔◌, inl, inr, List, [], map, filter, not, Bool, true, false, Some, Contains, refl, sym, ap, subst, ◌∙◌, true≢false, arith, eqb-true}
use Rattle.std.proofs.lemmas.Bool.{both_ways, not-true}
use Rattle.list_laws.proofs.Members.{Contains-nil, Contains-here, Contains-map, map-from}
use Rattle.std.proofs.lemmas.List.Elements.{Contains-append_left, Contains-append_right, Contains-append_cases}
use Rattle.std.proofs.lemmas.List.Folds.{list_any-append}
use Rattle.slab.specs.Slab.{Slab, get}
use Rattle.doc_api.specs.Words.{Id, Op}
use Rattle.version_vector.specs.Front.{id_of}
use Rattle.crdt_rules.specs.Same.{id_eq}
use Rattle.crdt_rules.specs.Dependencies.{is_logged, is_ready, missing}
use Rattle.doc_rules.specs.Replica.{put_among}
use Rattle.crdt_rules.proofs.SameLaws.{id_decides, eq_comm, bool_ext}
use Rattle.crdt_rules.proofs.Tests.{all_at, all_from}
use Rattle.list_laws.proofs.Filters.{filter-Contains, Contains-filter}
use Rattle.doc_rules.proofs.Held.{put_among_from}
use Rattle.hold_buffer.specs.Held.{IsCurrent, Wait}
use Rattle.hold_buffer.specs.Order.{operations_of, IsOrdered, waits_of, waits_for, wait_of}
use Rattle.hold_buffer.specs.declared.entry.Entry.{Entry}
use Rattle.hold_buffer.proofs.Waits.{waits-at, waits-from, same_entry}
use Rattle.hold_buffer.proofs.Waiting.{operations-at, entry_id}

-- ---- readiness is that nothing is lacked

ready_none_missing : (op : Op) (log : List Op) → is_ready op log ≡ true → (i : Id) → ¬ (Contains (missing op log) i)
ready_none_missing op log ready i c =
    let r = filter-Contains (λ j. not (is_logged log j)) (map id_of op.front) c in
    let e = map-from id_of op.front r.0 in
    let logged = all_at (λ e. is_logged log (id_of e)) op.front ready e.1 in
    both_ways (is_logged log i) (not-true (is_logged log i) r.1) (subst (λ j. is_logged log j ≡ true) e.2 logged)

none_missing_ready : (op : Op) (log : List Op) → ((i : Id) → ¬ (Contains (missing op log) i)) → is_ready op log ≡ true
none_missing_ready op log none = all_from (λ e. is_logged log (id_of e)) op.front (λ e c. by (id_of e) (Contains-map id_of op.front c) (is_logged log (id_of e)) refl)
  where
    by : (i : Id) → Contains (map id_of op.front) i → (b : Bool) → is_logged log i ≡ b → b ≡ true
    by i c true e = refl
    by i c false e = absurd (none i (Contains-filter (λ j. not (is_logged log j)) (map id_of op.front) c (ap not e)))

-- ---- what the entries lack

-- an entry lacks what its operation is missing
pub lacking : {slots : Slab Op} {order : List Entry} → IsOrdered slots order → (log : List Op) → IsCurrent (record { held = operations_of slots order; waits = waits_of order }) log
    → (t : Entry) → Contains order t → (o : Op) → get slots t.key ≡ Some o → (i : Id) → Contains t.missing i ↔ Contains (missing o log) i
unfolding IsCurrent
lacking {slots} {order} ordered log current t c o at i = (
  (λ lacked. (current o held i).0 (subst (λ (w : Id). Contains (waits_of order) (wait_of i w)) (sym name) (waits-at order c i lacked))),
  (λ missed.
      let u = waits-from order ((current o held i).1 missed) in
      subst (λ (v : Entry). Contains v.missing i) (same_entry order ordered.rising u.1 c (u.3 ∙ name)) u.2),
)
  where
    held : Contains (operations_of slots order) o
    held = operations-at slots order ordered.right t o c at

    name : o.id ≡ t.id
    name = entry_id slots order ordered.right t o c at

empty_test : (ids : List Id) → (length ids == 0) ≡ true → (i : Id) → ¬ (Contains ids i)
empty_test [] h i c = Contains-nil c
empty_test (j ∷ ids) h i c = let none : length (j ∷ ids) ≡ 0 = eqb-true (length (j ∷ ids)) 0 h in absurd (omega (arith, none))

none_test : (ids : List Id) → ((i : Id) → ¬ (Contains ids i)) → (length ids == 0) ≡ true
none_test [] none = refl
none_test (j ∷ ids) none = absurd (none j (Contains-here ids refl))

-- it lacks nothing exactly if its operation is ready
pub ready_test : {slots : Slab Op} {order : List Entry} → IsOrdered slots order → (log : List Op)
    → IsCurrent (record { held = operations_of slots order; waits = waits_of order }) log
    → (t : Entry) → Contains order t → (o : Op) × (get slots t.key ≡ Some o) × (o.id ≡ t.id) × (is_ready o log ≡ (length t.missing == 0))
ready_test {slots} {order} ordered log current t c =
    let r = ordered.right t c in
    let same = lacking ordered log current t c r.0 r.1 in (
      r.0,
      r.1,
      r.2,
      bool_ext (is_ready r.0 log) (length t.missing == 0)
          (λ ready. none_test t.missing (λ i lacked. ready_none_missing r.0 log ready i ((same i).0 lacked)))
          (λ free. none_missing_ready r.0 log (λ i missed. empty_test t.missing free i ((same i).1 missed))),
    )

-- ---- one more is logged

or_none : (a b : Bool) → (a || (b || false)) ≡ false → (a ≡ false) × (b ≡ false)
or_none true b h = absurd (true≢false h)
or_none false true h = absurd (true≢false h)
or_none false false h = (refl, refl)

logged-push : (log : List Op) (op : Op) (i : Id) → is_logged (log ++ op ∷ []) i ≡ (is_logged log i || (id_eq op.id i || false))
logged-push log op i = list_any-append (λ o. id_eq o.id i) log (op ∷ [])

pub current-logged : (held : List Op) (waits : List Wait) (log : List Op) (op : Op) → IsCurrent (record { held = held; waits = waits }) log
    → IsCurrent (record { held = held; waits = filter (λ w. not (id_eq w.awaited op.id)) waits }) (log ++ op ∷ [])
unfolding IsCurrent
current-logged held waits log op current o c i = (
  (λ waiting.
      let r = filter-Contains (λ w. not (id_eq w.awaited op.id)) waits waiting in
      let lacked = filter-Contains (λ j. not (is_logged log j)) (map id_of o.front) ((current o c i).0 r.0) in
      let before = not-true (is_logged log i) lacked.1 in
      let other = eq_comm id_decides op.id i ∙ not-true (id_eq i op.id) r.1 in
      Contains-filter (λ j. not (is_logged (log ++ op ∷ []) j)) (map id_of o.front) lacked.0
      (ap not (logged-push log op i ∙ (λ k. before k || (other k || false))))),
  (λ lacked.
      let r = filter-Contains (λ j. not (is_logged (log ++ op ∷ []) j)) (map id_of o.front) lacked in
      let none = or_none (is_logged log i) (id_eq op.id i) (sym (logged-push log op i) ∙ not-true (is_logged (log ++ op ∷ []) i) r.1) in
      Contains-filter (λ w. not (id_eq w.awaited op.id)) waits
      ((current o c i).1 (Contains-filter (λ j. not (is_logged log j)) (map id_of o.front) r.0 (ap not none.0)))
      (ap not (eq_comm id_decides i op.id ∙ none.1))),
)

-- ---- one is dropped

pub current-removed : (held : List Op) (waits : List Wait) (log : List Op) (id : Id) → IsCurrent (record { held = held; waits = waits }) log
    → IsCurrent (record { held = filter (λ o. not (id_eq o.id id)) held; waits = filter (λ w. not (id_eq w.waiter id)) waits }) log
unfolding IsCurrent
current-removed held waits log id current o c i =
    let r = filter-Contains (λ z. not (id_eq z.id id)) held c in (
      (λ waiting. (current o r.0 i).0 (filter-Contains (λ w. not (id_eq w.waiter id)) waits waiting).0),
      (λ lacked. Contains-filter (λ w. not (id_eq w.waiter id)) waits ((current o r.0 i).1 lacked) r.1),
    )

-- ---- one more is held

pub current-held : (held : List Op) (waits more : List Wait) (log : List Op) (op : Op)
    → ((w : Wait) → Contains more w ↔ Contains (waits ++ waits_for (missing op log) op.id) w)
    → ((w : Wait) → Contains waits w → w.waiter ≢ op.id) → ((o : Op) → Contains held o → o.id ≢ op.id) → IsCurrent (record { held = held; waits = waits }) log
    → IsCurrent (record { held = put_among op held; waits = more }) log
unfolding IsCurrent
current-held held waits more log op moved new_waiter new_id current o c =
    elim (put_among_from op held c) [ inl here ↦ subst (λ (z : Op). (i : Id) → Contains more (wait_of i z.id) ↔ Contains (missing z log) i) here own | inr there ↦ other o there ]
  where
    parts : (w : Wait) → Contains more w → Contains (waits ++ waits_for (missing op log) op.id) w
    parts w = (moved w).0

    own : (i : Id) → Contains more (wait_of i op.id) ↔ Contains (missing op log) i
    own i = (
      (λ waiting.
          elim (Contains-append_cases waits (waits_for (missing op log) op.id) (wait_of i op.id) (parts (wait_of i op.id) waiting)) [
            | inl old ↦ absurd (new_waiter (wait_of i op.id) old refl)
            | inr new ↦
                let r = map-from (λ (j : Id). wait_of j op.id) (missing op log) new in
                subst (Contains (missing op log)) (ap (λ (w : Wait). w.awaited) r.2) r.1
          ]),
      (λ lacked.
          (moved (wait_of i op.id)).1
          (Contains-append_right waits (waits_for (missing op log) op.id) (wait_of i op.id) (Contains-map (λ (j : Id). wait_of j op.id) (missing op log) lacked))),
    )

    other : (o : Op) → Contains held o → (i : Id) → Contains more (wait_of i o.id) ↔ Contains (missing o log) i
    other o c i = (
      (λ waiting.
          elim (Contains-append_cases waits (waits_for (missing op log) op.id) (wait_of i o.id) (parts (wait_of i o.id) waiting)) [
            | inl old ↦ (current o c i).0 old
            | inr new ↦
                let r = map-from (λ (j : Id). wait_of j op.id) (missing op log) new in
                absurd (new_id o c (sym (ap (λ (w : Wait). w.waiter) r.2)))
          ]),
      (λ lacked.
          (moved (wait_of i o.id)).1
          (Contains-append_left waits (waits_for (missing op log) op.id) (wait_of i o.id) ((current o c i).1 lacked))),
    )
