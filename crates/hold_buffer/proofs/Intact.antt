-- All that a buffer keeps, after each change.
use Rattle.std.proofs.Common.{◌≡◌, ℕ, ◌&&◌, nat_le, nat_lt, arith, ◌++◌, ◌∷◌, inl, inr, List, [], map, filter, not, true, cond, Bool, false, Option, Some, refl, sym, ap, subst, ◌∙◌, Contains, find, Less}
use Rattle.std.specs.Prelude.{insert, ◌↔◌}
use Rattle.std.specs.Option.{option_map}
use Rattle.std.specs.List.{cons_option}
use Rattle.slab.specs.Slab.{Slab, get}
use Rattle.doc_api.specs.Words.{id_cmp, name_cmp, Id, Op}
use Rattle.version_vector.specs.Front.{id_of, is_ascending}
use Rattle.lamport_id.specs.Limits.{greatest_counter}
use Rattle.lamport_id.specs.Name.{is_name}
use Rattle.op_core.specs.Shape.{is_id, is_entry, is_key, is_tagged, is_mutation, is_placed, is_allowed, is_shallow, has_parts, has_form, has_front, is_shaped}
use Rattle.std.specs.List.{list_all}
use Rattle.std.proofs.lemmas.Bool.{and_parts}
use Rattle.std.proofs.lemmas.Bool.Decides.{nat_tests}
use Rattle.hold_buffer.specs.Missing.{is_left, left_of}
use Rattle.crdt_rules.proofs.Tests.{all_at}
use Rattle.crdt_rules.specs.Same.{id_eq}
use Rattle.crdt_rules.specs.Dependencies.{is_logged, missing}
use Rattle.doc_rules.specs.Replica.{put_among}
use Rattle.doc_rules.specs.Sorted.{IsRising}
use Rattle.doc_rules.proofs.Held.{put_among_from}
use Rattle.doc_rules.proofs.OneAnswer.{name_order}
use Rattle.list_laws.proofs.Members.{Contains-here, Contains-there, Contains-insert_cases, map-from}
use Rattle.list_laws.proofs.Filters.{filter-Contains}
use Rattle.list_laws.specs.Sorted.{IsGap}
use Rattle.list_laws.proofs.Rising.{rising-filter, rising_same}
use Rattle.hold_buffer.specs.Held.{Buffer, Wait, IsCurrent}
use Rattle.hold_buffer.specs.Order.{operations_of, waits_of, waits_for, IsOrdered, AreNamed, IsIntact, without_id}
use Rattle.hold_buffer.specs.declared.entry.Entry.{Entry}
use Rattle.hold_buffer.proofs.Current.{current-logged, current-removed, current-held, lacking}
use Rattle.hold_buffer.proofs.Names.{rising_ids}
use Rattle.hold_buffer.proofs.Waiting.{no_held, operations-at}
use Rattle.hold_buffer.proofs.Waits.{waits-without, waits-removed, waits-insert, no_waits}

abbrev pub shown : Slab Op → List Entry → Buffer
shown slots order = record { held = operations_of slots order; waits = waits_of order }

-- more room changes nothing
pub grown : {old new : Slab Op} {order order' : List Entry} {capacity : ℕ} → IsIntact old order → new ≡ record old { capacity = capacity } → order' ≡ order → IsIntact new order'
grown {old} {new} {order} {order'} {capacity} is slots entries =
    subst (λ (s : Slab Op). IsIntact s order') (sym slots)
    (subst (IsIntact (record old { capacity = capacity })) (sym entries)
    (record { ordered = record { rising = is.ordered.rising; right = is.ordered.right }; named = is.named; ascending = is.ascending }))

-- ---- one more is held

pub rising_missing : (op : Op) (log : List Op) → is_ascending op.front ≡ true → IsRising name_cmp (λ i. i.replica) (missing op log)
rising_missing op log ascends = rising-filter name_cmp (λ i. i.replica) (λ i. not (is_logged log i)) (map id_of op.front) (rising_ids op.front ascends)

pub held-intact : {old new : Slab Op} {order order' : List Entry} → IsIntact old order → IsOrdered new order' → (log : List Op) (op : Op) (at : ℕ) (t : Entry)
    → order' ≡ insert order at t → t.missing ≡ missing op log → is_ascending op.front ≡ true → operations_of new order' ≡ put_among op (operations_of old order) → IsIntact new order'
held-intact {old} {new} {order} {order'} is ordered log op at t put lacks ascends held = record {
  ordered = ordered;
  named = subst AreNamed (sym put)
      (λ u c.
      elim (Contains-insert_cases order at t c) [
        | inl here ↦ subst (λ (v : Entry). IsRising name_cmp (λ i. i.replica) v.missing) here
            (subst (IsRising name_cmp (λ i. i.replica)) (sym lacks) (rising_missing op log ascends))
        | inr there ↦ is.named u there
      ]);
  ascending = λ o c.
      elim (put_among_from op (operations_of old order) (subst (λ l. Contains l o) held c)) [
        | inl here ↦ subst (λ (p : Op). is_ascending p.front ≡ true) here ascends
        | inr there ↦ is.ascending o there
      ];
}

pub held-now : (old new : Slab Op) (order order' : List Entry) → IsOrdered old order → (log : List Op) (op : Op) (at : ℕ) (t : Entry)
    → IsGap id_cmp (λ t. t.id) order op.id at → order' ≡ insert order at t → t.id ≡ op.id → t.missing ≡ missing op log
    → operations_of new order' ≡ put_among op (operations_of old order) → IsCurrent (shown old order) log → IsCurrent (shown new order') log
held-now old new order order' is log op at t gap put name lacks held current =
    subst (λ (b : Buffer). IsCurrent b log) (sym (λ i. record { held = held i; waits = waits_of (put i) }))
    (current-held (operations_of old order) (waits_of order) (waits_of (insert order at t)) log op
    (subst (λ (l : List Id). (w : Wait) → Contains (waits_of (insert order at t)) w ↔ Contains (waits_of order ++ waits_for l op.id) w) lacks
    (subst (λ (n : Id). (w : Wait) → Contains (waits_of (insert order at t)) w ↔ Contains (waits_of order ++ waits_for t.missing n) w) name (waits-insert order at t)))
    (no_waits order op.id at gap) (no_held is op.id at gap) current)

small : (n : ℕ) → nat_le n 100000 ≡ true → nat_lt n 4294967296 ≡ true
small n h = grind (arith, nat_tests)

all_left : (ids : List Id) → ((i : Id) → Contains ids i → is_left i ≡ true) → left_of ids ≡ ids
all_left [] all = refl
all_left (i ∷ ids) all = rw (all i (Contains-here ids refl)) (ap (λ l. i ∷ l) (all_left ids (λ j c. all j (Contains-there i ids c))))

-- each id of a front has a counter
pub left_missing : (op : Op) (log : List Op) → is_shaped op ≡ true → left_of (missing op log) ≡ missing op log
left_missing op log shaped =
    let form = (and_parts (is_shallow op.cursor.path) (has_form op) (and_parts (is_shallow op.cursor.path && has_form op) (has_front op) shaped).0).1 in
    let placed = (and_parts (has_parts op && is_placed op.cursor.path op.cursor.key) (is_allowed op.mutation op.cursor) form).0 in
    let parts = (and_parts (has_parts op) (is_placed op.cursor.path op.cursor.key) placed).0 in
    let fourth = and_parts (is_id op.id && list_all is_entry op.front && (list_all is_tagged op.cursor.path && is_key op.cursor.key)) (is_mutation op.mutation) parts in
    let third = and_parts (is_id op.id && list_all is_entry op.front) (list_all is_tagged op.cursor.path && is_key op.cursor.key) fourth.0 in
    let entries = (and_parts (is_id op.id) (list_all is_entry op.front) third.0).1 in
    all_left (missing op log)
    (λ i c.
    let e = map-from id_of op.front (filter-Contains (λ j. not (is_logged log j)) (map id_of op.front) c).0 in
    subst (λ (j : Id). is_left j ≡ true) e.2 (counted (id_of e.0) (all_at is_entry op.front entries e.1)))
  where
    counted : (i : Id) → is_id i ≡ true → is_left i ≡ true
    counted i h =
        small i.counter (and_parts (is_name i.replica && nat_le 1 i.counter) (nat_le i.counter greatest_counter) h).1

-- ---- an id is lacked no more

operations-without : (slots : Slab Op) (id : Id) (order : List Entry) → operations_of slots (map (without_id id) order) ≡ operations_of slots order
operations-without slots id [] = refl
operations-without slots id (t ∷ order) = ap (cons_option (get slots t.key)) (operations-without slots id order)

rising-without : (id : Id) (order : List Entry) → IsRising id_cmp (λ t. t.id) order → IsRising id_cmp (λ t. t.id) (map (without_id id) order)
rising-without id [] rising = tt
rising-without id (t ∷ order) rising = (
  (λ u c. let r = map-from (without_id id) order c in subst (λ (v : Entry). id_cmp t.id v.id ≡ Less) r.2 (rising.0 r.0 r.1)),
  rising-without id order rising.1,
)

pub logged-intact : {slots : Slab Op} {order order' : List Entry} → IsIntact slots order → (id : Id) → order' ≡ map (without_id id) order → IsIntact slots order'
logged-intact {slots} {order} is id entries =
    subst (IsIntact slots) (sym entries)
    (record {
      ordered = record {
        rising = rising-without id order is.ordered.rising;
        right = λ t c.
            let r = map-from (without_id id) order c in
            subst (λ (v : Entry). (op : Op) × (get slots v.key ≡ Some op) × (op.id ≡ v.id)) r.2 (is.ordered.right r.0 r.1);
      };
      named = λ t c.
          let r = map-from (without_id id) order c in
          subst (λ (v : Entry). IsRising name_cmp (λ i. i.replica) v.missing) r.2
          (rising-filter name_cmp (λ i. i.replica) (λ i. not (id_eq i id)) (r.0).missing (is.named r.0 r.1));
      ascending = λ o c. is.ascending o (subst (λ l. Contains l o) (operations-without slots id order) c);
    })

pub logged-held : (slots : Slab Op) (id : Id) (order order' : List Entry) → order' ≡ map (without_id id) order → operations_of slots order' ≡ operations_of slots order
logged-held slots id order order' entries = ap (operations_of slots) entries ∙ operations-without slots id order

pub logged-current : (slots : Slab Op) (id : Id) (order order' : List Entry) → order' ≡ map (without_id id) order → (log : List Op) (op : Op) → op.id ≡ id
    → IsCurrent (shown slots order) log → IsCurrent (shown slots order') (log ++ op ∷ [])
logged-current slots id order order' entries log op name current =
    let held = logged-held slots id order order' entries in
    let left : waits_of order' ≡ filter (λ w. not (id_eq w.awaited op.id)) (waits_of order) =
    ap waits_of entries ∙ waits-without id order ∙ ap (λ (i : Id). filter (λ (w : Wait). not (id_eq w.awaited i)) (waits_of order)) (sym name) in
    subst (λ (b : Buffer). IsCurrent b (log ++ op ∷ [])) (sym (λ i. record { held = held i; waits = left i }))
    (current-logged (operations_of slots order) (waits_of order) log op current)

-- ---- one is dropped

module _ {old new : Slab Op} {order order' : List Entry} (is : IsIntact old order) (id : Id) (ordered : IsOrdered new order')
    (entries : order' ≡ filter (λ t. not (id_eq t.id id)) order) (held : operations_of new order' ≡ filter (λ o. not (id_eq o.id id)) (operations_of old order)) where
  pub removed-intact : IsIntact new order'
  removed-intact = record {
    ordered = ordered;
    named = subst AreNamed (sym entries) (λ t c. is.named t (filter-Contains (λ (u : Entry). not (id_eq u.id id)) order c).0);
    ascending = λ o c. is.ascending o (filter-Contains (λ (p : Op). not (id_eq p.id id)) (operations_of old order) (subst (λ l. Contains l o) held c)).0;
  }

  pub removed-current : (log : List Op) → IsCurrent (shown old order) log → IsCurrent (shown new order') log
  removed-current log current =
      subst (λ (b : Buffer). IsCurrent b log) (sym (λ i. record { held = held i; waits = (ap waits_of entries ∙ waits-removed id order) i }))
      (current-removed (operations_of old order) (waits_of order) log id current)

-- ---- what is told of the entries

-- the first operation that passes is that of the first entry that does
pub find_entries : (slots : Slab Op) (order : List Entry) (p : Op → Bool) (q : Entry → Bool)
    → ((t : Entry) → Contains order t → (o : Op) × (get slots t.key ≡ Some o) × (o.id ≡ t.id) × (p o ≡ q t))
    → option_map (λ t. t.id) (find q order) ≡ option_map (λ o. o.id) (find p (operations_of slots order))
find_entries slots [] p q each = refl
find_entries slots (t ∷ order) p q each =
    let here = each t (Contains-here order refl) in
    by here.0 here.1 here.2 (q t) here.3 (find_entries slots order p q (λ u c. each u (Contains-there t order c)))
  where
    by : (o : Op) → get slots t.key ≡ Some o → o.id ≡ t.id → (b : Bool) → p o ≡ b
        → option_map (λ t. t.id) (find q order) ≡ option_map (λ o. o.id) (find p (operations_of slots order))
        → option_map (λ t. t.id) (cond b (Some t) (find q order)) ≡ option_map (λ o. o.id) (find p (operations_of slots (t ∷ order)))
    by o at name true same ih =
        sym (ap (λ (x : Option Op). option_map (λ (o : Op). o.id) (find p (cons_option x (operations_of slots order)))) at
        ∙ ap (λ b. option_map (λ (o : Op). o.id) (cond b (Some o) (find p (operations_of slots order)))) same
        ∙ ap (λ (i : Id). Some i) name)
    by o at name false same ih =
        ih ∙ sym (ap (λ (x : Option Op). option_map (λ (o : Op). o.id) (find p (cons_option x (operations_of slots order)))) at
        ∙ ap (λ b. option_map (λ (o : Op). o.id) (cond b (Some o) (find p (operations_of slots order)))) same)

-- an entry has the ids that its operation is missing
pub missing_is : {slots : Slab Op} {order : List Entry} → IsIntact slots order → (log : List Op) → IsCurrent (shown slots order) log → (t : Entry) → Contains order t
    → (o : Op) → get slots t.key ≡ Some o → t.missing ≡ missing o log
missing_is {slots} {order} is log current t c o at =
    let same = lacking is.ordered log current t c o at in
    rising_same name_order (λ (i : Id). i.replica) t.missing (missing o log) (is.named t c)
    (rising_missing o log (is.ascending o (operations-at slots order is.ordered.right t o c at))) (λ i. (same i).0) (λ i. (same i).1)

pub entries_missing : {slots : Slab Op} {order : List Entry} → IsIntact slots order → (log : List Op) → IsCurrent (shown slots order) log
    → map {B = Id × List Id} (λ t. (t.id, t.missing)) order ≡ map {B = Id × List Id} (λ o. (o.id, missing o log)) (operations_of slots order)
entries_missing {slots} {order} is log current = go order (λ t c. c)
  where
    go : (ts : List Entry) → ((t : Entry) → Contains ts t → Contains order t)
        → map {B = Id × List Id} (λ t. (t.id, t.missing)) ts ≡ map {B = Id × List Id} (λ o. (o.id, missing o log)) (operations_of slots ts)
    go [] within = refl
    go (t ∷ ts) within =
        let c = within t (Contains-here ts refl) in
        let r = is.ordered.right t c in
        let waited = missing_is is log current t c r.0 r.1 in
        (λ i. (sym r.2 i, waited i) ∷ go ts (λ u d. within u (Contains-there t ts d)) i)
        ∙ ap (λ (x : Option Op). map {B = Id × List Id} (λ (o : Op). (o.id, missing o log)) (cons_option x (operations_of slots ts))) (sym r.1)
