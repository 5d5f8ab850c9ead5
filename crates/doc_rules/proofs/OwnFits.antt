-- A replica's own operation fits its log, where no cause stands against it.
use Rattle.std.proofs.Common.{◌≡◌, ◌+◌, ◌≤◌, nat_le, List, [], ◌∷◌, ◌++◌, length, true, false, ◌&&◌, ◌==◌, not, Option, Ok, Contains, refl, sym, ap, subst, ◌∙◌, arith, le-leb, leb-true, eq-eqb}
use Rattle.std.specs.List.{list_all}
use Rattle.std.proofs.lemmas.Bool.{and_parts, and_from}
use Rattle.doc_api.specs.Words.{Id, Op, Cursor, Key, Tagged, Mutation, Assign, Insert, Delete, Add}
use Rattle.lamport_id.specs.Name.{is_name}
use Rattle.version_vector.specs.Front.{covers, max_counter, is_ascending}
use Rattle.op_core.specs.Shape.{is_id, is_entry, is_key, is_tagged, is_mutation, is_head, is_placed, is_shallow, is_allowed, ends_in_list, has_parts, has_form, has_front, key_of}
use Rattle.op_core.specs.declared.cursor.Key.TheVariants.{Doc, Text, Element, Head}
use Rattle.list_laws.proofs.Histories.{order_of_history}
use Rattle.list_laws.proofs.Members.{map-from}
use Rattle.crdt_rules.specs.Same.{id_eq, path_eq}
use Rattle.crdt_rules.specs.Effect.{is_insertion, path_of}
use Rattle.crdt_rules.specs.Facts.{facts, inserts}
use Rattle.crdt_rules.specs.Fits.{Fits, HasRoom, is_element, knows_key, knows_cursor, replicas}
use Rattle.crdt_rules.specs.Free.{insertions}
use Rattle.crdt_rules.specs.Log.{IsGood, replay}
use Rattle.crdt_rules.specs.Pull.{front_of}
use Rattle.crdt_rules.proofs.Logs.{fits_inside}
use Rattle.crdt_rules.proofs.FrontOf.{front_of-covers}
use Rattle.crdt_rules.proofs.Readings.{element_at}
use Rattle.crdt_rules.proofs.ReplayOrder.{replay_order, insertion_from, insertions_formed}
use Rattle.crdt_rules.proofs.SameLaws.{id_decides, path_decides}
use Rattle.crdt_rules.proofs.Tests.{any_from, all_from, not-false}
use Rattle.crdt_rules.proofs.WalkLaws.{id_order}
use Rattle.doc_rules.specs.Events.{logged, changed_rows, expected_of_change, is_past_operations, is_past_replicas}
use Rattle.doc_rules.proofs.Tables.{by_rows}
use Rattle.doc_rules.specs.Replica.{Replica, replica_facts, next_id, own_op}
use Rattle.doc_api.specs.declared.place.Step.{Step}
use Rattle.doc_rules.specs.Resolve.{is_short, exists_in, path_exists, Resolves}
use Rattle.doc_rules.proofs.Resolved.{resolved_is_at}
use Rattle.doc_rules.proofs.WholeFront.{front_rising, rising_ascends, front_from, front_last, knows_whole_front, max_counter_below}

-- a logged id is within its limits
logged_is_id : (log : List Op) (o : Op) → IsGood log → Contains log o → is_id o.id ≡ true
logged_is_id log o good c =
    let shaped = (fits_inside log good c).fits.shape in
    let form = (and_parts (is_shallow o.cursor.path) (has_form o) (and_parts (is_shallow o.cursor.path && has_form o) (has_front o) shaped).0).1 in
    let parts = (and_parts (has_parts o) (is_placed o.cursor.path o.cursor.key) (and_parts (has_parts o && is_placed o.cursor.path o.cursor.key) (is_allowed o.mutation o.cursor) form).0).0 in
    let rest = (and_parts (is_id o.id && list_all is_entry o.front && (list_all is_tagged o.cursor.path && is_key o.cursor.key)) (is_mutation o.mutation) parts).0 in
    (and_parts (is_id o.id) (list_all is_entry o.front) (and_parts (is_id o.id && list_all is_entry o.front) (list_all is_tagged o.cursor.path && is_key o.cursor.key) rest).0).0

front_entries : (log : List Op) → IsGood log → list_all is_entry (front_of log) ≡ true
front_entries log good =
    all_from is_entry (front_of log) (λ e c. let r = front_from log c in subst (λ i. is_id i ≡ true) r.2 (logged_is_id log r.0 good r.1))

-- ---- elements that stand in their lists

-- a logged insertion made it
pub element_of : (log : List Op) (p : List Tagged) (i : Id) → IsGood log → Contains ((facts (replay log)).order p) i
    → (o : Op) × Contains log o × (o.id ≡ i) × (inserts o p ≡ true)
element_of log p i good c =
    let order = order_of_history id_order (insertions log p) (insertions_formed p log good) in
    let r = map-from (λ (j : Id × Option Id). j.0) (insertions log p) ((order.members i).0 (subst (λ l. Contains l i) (replay_order p log good) c)) in
    let s = insertion_from log p r.1 in
    (s.0, s.1, ap (λ e. e.0) s.2 ∙ r.2, s.3)

key_known : (log : List Op) (p : List Tagged) (k : Key) → IsGood log → is_short k ≡ true → exists_in (facts (replay log)) p k ≡ true
    → (knows_key (front_of log) log p k ≡ true) × (is_key k ≡ true)
key_known log p Doc good short here = (refl, refl)
key_known log p (Text text) good short here = (refl, short)
key_known log p Head good short here = (refl, refl)
key_known log p (Element i) good short here =
    let found = any_from (id_eq i) ((facts (replay log)).order p) here in
    let e = element_of log p i good (subst (Contains ((facts (replay log)).order p)) (sym (id_decides.same i found.0 found.2)) found.1) in
    let inserted = and_parts (is_insertion (e.0).mutation) (path_eq (path_of e.0) p) e.3 in (
      and_from (covers (front_of log) i) (is_element log p i)
          (front_of-covers log e.0 i e.1 (ap (λ j. j.replica) e.2) (subst (λ (j : Id). i.counter ≤ j.counter) (sym e.2) (omega arith)))
          (element_at log p i e.0 e.1 (record { id = e.2; insertion = inserted.0; path = path_decides.same (path_of e.0) p inserted.1 })),
      subst (λ j. is_id j ≡ true) e.2 (logged_is_id log e.0 good e.1),
    )

pub record IsKnown (log : List Op) (before path : List Tagged) (k : Key) : Type 0 where
  pub known : knows_cursor (front_of log) log before path k ≡ true
  pub tags : list_all is_tagged path ≡ true
  pub key : is_key k ≡ true

cursor_known : (log : List Op) (before path : List Tagged) (k : Key) → IsGood log → path_exists (facts (replay log)) before path k ≡ true → IsKnown log before path k
cursor_known log before [] k good h =
    let parts = and_parts (is_short k) (exists_in (facts (replay log)) before k) h in
    let one = key_known log before k good parts.0 parts.1 in
    record { known = one.0; tags = refl; key = one.1 }
cursor_known log before (t ∷ path) k good h =
    let f = facts (replay log) in
    let parts = and_parts (is_short (key_of t) && exists_in f before (key_of t)) (path_exists f (before ++ t ∷ []) path k) h in
    let first = and_parts (is_short (key_of t)) (exists_in f before (key_of t)) parts.0 in
    let one = key_known log before (key_of t) good first.0 first.1 in
    let rest = cursor_known log (before ++ t ∷ []) path k good parts.1 in
    record {
      known = and_from (knows_key (front_of log) log before (key_of t)) (knows_cursor (front_of log) log (before ++ t ∷ []) path k) one.0 rest.known;
      tags = and_from (is_tagged t) (list_all is_tagged path) one.1 rest.tags;
      key = rest.key;
    }

-- ---- the operation

-- no test of the table of changes holds
pub record IsUnopposed (r : Replica) (c : Cursor) (m : Mutation) : Type 0 where
  pub listed : (is_insertion m && not (ends_in_list c.path)) ≡ false
  pub below : (not (is_insertion m) && is_head c.key) ≡ false
  pub operations : is_past_operations (own_op r c m) r.log ≡ false
  pub replicas : is_past_replicas (own_op r c m) r.log ≡ false

allowed : (r : Replica) (c : Cursor) (m : Mutation) → IsUnopposed r c m → is_allowed m c ≡ true
allowed r c (Insert v) h = not-false (ends_in_list c.path) h.listed
allowed r c (Assign v) h = ap not h.below
allowed r c Delete h = ap not h.below
allowed r c (Add n) h = ap not h.below

own_room : (r : Replica) (c : Cursor) (m : Mutation) → IsUnopposed r c m → HasRoom (own_op r c m ∷ r.log)
own_room r c m h =
    let op = own_op r c m in
    record {
      operations = leb-true (length (op ∷ r.log)) 100000 (not-false (nat_le (length (op ∷ r.log)) 100000) h.operations);
      replicas = leb-true (length (replicas (op ∷ r.log))) 256 (not-false (nat_le (length (replicas (op ∷ r.log))) 256) h.replicas);
    }

next_is_id : (r : Replica) → is_name r.name ≡ true → IsGood r.log → length r.log + 1 ≤ 100000 → is_id (next_id r) ≡ true
next_is_id r named good room =
    let most = max_counter_below r.log good in
    and_from (is_name r.name && nat_le 1 (max_counter (front_of r.log) + 1)) (nat_le (max_counter (front_of r.log) + 1) 100000)
    (and_from (is_name r.name) (nat_le 1 (max_counter (front_of r.log) + 1)) named (le-leb 1 (max_counter (front_of r.log) + 1) (omega arith)))
    (le-leb (max_counter (front_of r.log) + 1) 100000 (omega (arith, most, room)))

pub unopposed_fits : (r : Replica) (start : Cursor) (steps : List Step) (c : Cursor) (m : Mutation) → is_name r.name ≡ true → is_mutation m ≡ true → IsGood r.log
    → Resolves (replica_facts r) start steps (Ok c) → IsUnopposed r c m → Fits (own_op r c m) r.log
unopposed_fits r start steps c m named value good resolves h =
    let is_at = resolved_is_at (replica_facts r) start steps c resolves in
    let known = cursor_known r.log [] c.path c.key good is_at.stands in
    let room = own_room r c m h in
    let parts = and_from (is_id (next_id r) && list_all is_entry (front_of r.log) && (list_all is_tagged c.path && is_key c.key)) (is_mutation m)
    (and_from (is_id (next_id r) && list_all is_entry (front_of r.log)) (list_all is_tagged c.path && is_key c.key)
    (and_from (is_id (next_id r)) (list_all is_entry (front_of r.log)) (next_is_id r named good (let few = room.operations in few_more few)) (front_entries r.log good))
    (and_from (list_all is_tagged c.path) (is_key c.key) known.tags known.key)) value in
    let form = and_from (has_parts (own_op r c m) && is_placed c.path c.key) (is_allowed m c)
    (and_from (has_parts (own_op r c m)) (is_placed c.path c.key) parts is_at.placed) (allowed r c m h) in
    let front = and_from (is_ascending (front_of r.log)) (max_counter (front_of r.log) + 1 == max_counter (front_of r.log) + 1)
    (rising_ascends (front_of r.log) (front_rising r.log)) (eq-eqb (max_counter (front_of r.log) + 1) (max_counter (front_of r.log) + 1) refl) in
    record {
      shape = and_from (is_shallow c.path && has_form (own_op r c m)) (has_front (own_op r c m))
          (and_from (is_shallow c.path) (has_form (own_op r c m)) is_at.shallow form) front;
      front = knows_whole_front r.log good;
      chain = front_last r.log r.name;
      cursor = known.known;
      room = room;
    }
  where
    few_more : length (own_op r c m ∷ r.log) ≤ 100000 → length r.log + 1 ≤ 100000
    few_more h = omega arith

-- so it fits where the table says that it is logged
pub own_fits : (r : Replica) (start : Cursor) (steps : List Step) (c : Cursor) (m : Mutation) → is_name r.name ≡ true → is_mutation m ≡ true → IsGood r.log
    → Resolves (replica_facts r) start steps (Ok c) → expected_of_change r c m ≡ logged (own_op r c m) → Fits (own_op r c m) r.log
own_fits r start steps c m named value good resolves =
    by_rows (λ due. due ≡ logged (own_op r c m) → Fits (own_op r c m) r.log) (changed_rows r c m) (logged (own_op r c m)) (
      (λ is e. absurd (cc)),
      λ listed. (
        (λ is e. absurd (cc)),
        λ below. (
          (λ is e. absurd (cc)),
          λ operations. (
            (λ is e. absurd (cc)),
            λ replicas e.
                unopposed_fits r start steps c m named value good resolves (record { listed = listed; below = below; operations = operations; replicas = replicas }),
          ),
        ),
      ),
    )
