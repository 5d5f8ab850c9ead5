-- What is read is written as it was read, and what is written asks what it says.
use Rattle.std.proofs.Common.{◌≡◌, ◌≢◌, ◌⊎◌, inl, inr, ℕ, zero, suc, ◌&&◌, nat_le, Bool, true, false, cond, List, [], ◌∷◌, map, codes, Option, Some, None, Result, Ok, Err, ok_or, refl, sym, ap, ◌∙◌, subst}
use Rattle.std.specs.List.{list_all}
use Rattle.std.specs.Str.{bytes_eq}
use Rattle.std.proofs.lemmas.Bool.{and_parts}
use Rattle.std.proofs.lemmas.Slice.Eq.{bytes_eq-Decides}
use Rattle.serde_json.specs.Data.{Num, Data, null, boolean, number, unsigned, string, array, object, Items, no_items, item}
use Rattle.serde_json.specs.Find.{as_u64, as_str, as_array}
use Rattle.serde_json.specs.View.{items_of}
use Rattle.json_scalar.specs.Refusal.{and_then}
use Rattle.json_scalar.specs.Scalar.{val_data, val_of}
use Rattle.json_scalar.specs.declared.refusal.Refusal.TheVariants.{NotJson, BadRequest, BadOperation, BadFront, NoMemory}
use Rattle.json_scalar.proofs.Readings.{ok_step, val_of-Ok}
use Rattle.version_vector.specs.Front.{is_ascending}
use Rattle.op_core.specs.Reading.{◌>>=◌, pair_of, key_of_number, key_within, tagged_of, tagged_within, path_within, cursor_within, id_from, front_of_json, op_from, some_if}
use Rattle.op_core.specs.Shape.{is_entry, key_of}
use Rattle.op_core.specs.Wire.{list_data, key_data, tagged_data, cursor_data}
use Rattle.op_core.specs.declared.cursor.Cursor.{Cursor}
use Rattle.op_core.specs.declared.cursor.Key.{Key}
use Rattle.op_core.specs.declared.cursor.Key.TheVariants.{Doc, Text, Element, Head}
use Rattle.op_core.specs.declared.cursor.Tagged.{Tagged}
use Rattle.op_core.specs.declared.cursor.Tagged.TheVariants as tagged
use Rattle.op_core.proofs.Wires.{some_step, some_if-Some, option_map-Some, as_array-Some, as_str-Some, as_u64-Some, id_from-id_data, front_of_json-front_data, cursor_within-Some, ReadsId-from_answer, ReadsFront-from_answer}
use Rattle.op_core.proofs.Operations.{op_from-wire, ReadsOp-from_answer}
use Rattle.doc_api.specs.Words.{Refusal, Val, Mutation, Assign, Insert, Delete, Add}
use Rattle.doc_api.specs.declared.place.Place.{Place}
use Rattle.doc_api.specs.declared.ask.Command.TheVariants.{Change, Deliver, Forget}
use Rattle.doc_api.specs.declared.ask.Look.{Look}
use Rattle.doc_api.specs.declared.ask.Look.TheVariants.{Keys}
use Rattle.doc_api.specs.declared.ask.Query.TheVariants as query
use Rattle.doc_api.specs.declared.ask.State.TheVariants.{Front, Held}
use Rattle.line_proto.specs.Reading.{steps_from, look_of, limit_from, in_order, fronts_from, mutation_of_verb, line_data}
use Rattle.line_proto.specs.Written.{is_change, look_word, change_data}
use Rattle.line_proto.specs.Replies.{worded}
use Rattle.line_proto.proofs.Found.{found_step, ok_or-Ok, if_Ok, both_hold, by_word, steps_from-Some, look_of-Some, limit_from-Some, mutation_of_verb-Ok}
use Rattle.line_proto.proofs.Refusing.{op_from-never_memory}
use Rattle.line_proto.proofs.Requests.{steps_from-step_data, val_of-put, int_of-of_integer}
use Rattle.replica_c.specs.Asking.{plain_ask, ask_deletion, ask_delivery, ask_forgetting, ask_where, ask_index, ask_look, short_ask, ask_ops, ask_chains, ask_inserts, ask_deletes, vals_of, vals_from, some_items, some_count, count_from, ask_change, long_ask, ask_by, ask_items, ask_from, ask_of}
use Rattle.replica_c.specs.Places.{whole_document, place_start_number, place_start, place_items, place_from}
use Rattle.replica_c.specs.Written.{has_id, starts_a_place, WritesStart, WritesPlace, change_ask_data, has_some, AsksFor}
use Rattle.replica_c.specs.declared.ask.Ask.{Ask}
use Rattle.replica_c.specs.declared.ask.Ask.TheVariants.{Act, Run, Read}
use Rattle.replica_c.specs.declared.ask.Run.TheVariants.{Inserts, Deletes}

-- ---- cursors whose texts may have any length, read as they are written

key_within-any : (key : Key) → has_id key ≡ true → key_within None (key_data key) ≡ Some key
key_within-any Doc h = refl
key_within-any (Text text) h = refl
key_within-any (Element id) h = rw h refl
key_within-any Head h = refl

tagged_within-any : (t : Tagged) → has_id (key_of t) ≡ true → tagged_within None (tagged_data t) ≡ Some t
tagged_within-any (tagged.Map key) h = rw (key_within-any key h) refl
tagged_within-any (tagged.List key) h = rw (key_within-any key h) refl

path_within-any : (path : List Tagged) → list_all (λ t. has_id (key_of t)) path ≡ true → path_within None (items_of (map tagged_data path)) ≡ Some path
path_within-any [] h = refl
path_within-any (first ∷ rest) h =
    let parts = and_parts (has_id (key_of first)) (list_all (λ t. has_id (key_of t)) rest) h in
    rw (tagged_within-any first parts.0, path_within-any rest parts.1) refl

cursor_within-any : (start : Cursor) → starts_a_place start ≡ true → cursor_within None (cursor_data start) ≡ Some start
cursor_within-any start h =
    let parts = and_parts (list_all (λ t. has_id (key_of t)) start.path) (has_id start.key) h in
    rw (path_within-any start.path parts.0, key_within-any start.key parts.1) refl

-- ---- and within the limits

number_has_id : (o : Option ℕ) (key : Key) → key_of_number o ≡ Some key → has_id key ≡ true
number_has_id None key h = cc
number_has_id (Some zero) key h = let same : key ≡ Doc = cc in ap has_id same
number_has_id (Some (suc zero)) key h = let same : key ≡ Head = cc in ap has_id same
number_has_id (Some (suc (suc n))) key h = cc

key_has_id : (d : Data) (key : Key) → key_within None d ≡ Some key → has_id key ≡ true
key_has_id null key h = cc
key_has_id (boolean b) key h = cc
key_has_id (number n) key h = number_has_id (as_u64 n) key h
key_has_id (string s) key h = let same : key ≡ Text s = cc in ap has_id same
key_has_id (array ds) key h =
    let id = option_map-Some Element (id_from (array ds)) key h in
    ap has_id (sym id.2) ∙ (ReadsId-from_answer (array ds) (Some id.0) id.1).1
key_has_id (object ms) key h = cc

tagged_key : (m l : Bool) (key : Key) (t : Tagged) → cond m (Some (tagged.Map key)) (some_if l (tagged.List key)) ≡ Some t → key_of t ≡ key
tagged_key true l key t h = let same : t ≡ tagged.Map key = cc in ap key_of same
tagged_key false true key t h = let same : t ≡ tagged.List key = cc in ap key_of same
tagged_key false false key t h = cc

tagged_has_id : (d : Data) (t : Tagged) → tagged_within None d ≡ Some t → has_id (key_of t) ≡ true
tagged_has_id d t h =
    let p = some_step (pair_of d) _ t h in
    let tag = some_step (as_str p.0.0) _ t p.2 in
    let key = some_step (key_within None p.0.1) _ t tag.2 in
    ap has_id (tagged_key _ _ key.0 t key.2) ∙ key_has_id p.0.1 key.0 key.1

path_has_ids : (ds : Items) (path : List Tagged) → path_within None ds ≡ Some path → list_all (λ t. has_id (key_of t)) path ≡ true
path_has_ids no_items path h = let none : path ≡ [] = cc in rw none refl
path_has_ids (item d ds) path h =
    let first = some_step (tagged_within None d) _ path h in
    let rest = some_step (path_within None ds) _ path first.2 in
    let whole : path ≡ first.0 ∷ rest.0 = cc in
    ap (list_all (λ t. has_id (key_of t))) whole ∙ rw (tagged_has_id d first.0 first.1) (path_has_ids ds rest.0 rest.1)

cursor_is_start : (d : Data) (start : Cursor) → cursor_within None d ≡ Some start → starts_a_place start ≡ true
cursor_is_start d start h =
    let p = some_step (pair_of d) _ start h in
    let items = some_step (as_array p.0.0) _ start p.2 in
    let path = some_step (path_within None items.0) _ start items.2 in
    let key = some_step (key_within None p.0.1) _ start path.2 in
    let whole : start ≡ record { path = path.0; key = key.0 } = cc in
    ap starts_a_place whole ∙ both_hold _ _ (path_has_ids items.0 path.0 path.1) (key_has_id p.0.1 key.0 key.1)

-- ---- places

place_start-of : (d : Data) (start : Cursor) → WritesStart d start → place_start d ≡ Some start
place_start-of d start (inl (is, whole)) = ap place_start is ∙ ap Some (sym whole)
place_start-of d start (inr (is, within)) = ap place_start is ∙ cursor_within-any start within

number_starts : (n : Num) (o : Option ℕ) (start : Cursor) → as_u64 n ≡ o → place_start_number o ≡ Some start → WritesStart (number n) start
number_starts n None start is h = cc
number_starts n (Some zero) start is h = inl (ap number (as_u64-Some n 0 is), cc)
number_starts n (Some (suc m)) start is h = cc

place_start-Some : (d : Data) (start : Cursor) → place_start d ≡ Some start → WritesStart d start
place_start-Some null start h = cc
place_start-Some (boolean b) start h = cc
place_start-Some (number n) start h = number_starts n (as_u64 n) start refl h
place_start-Some (string s) start h = cc
place_start-Some (array ds) start h = inr (sym (cursor_within-Some None (array ds) start h), cursor_is_start (array ds) start h)
place_start-Some (object ms) start h = cc

place_from-of : (d : Data) (place : Place) → WritesPlace d place → place_from d ≡ Some place
place_from-of d place (start, starts, is) =
    ap place_from is ∙ rw (place_start-of start place.start starts, steps_from-step_data place.steps) refl

place_items-Some : (d : Data) (ds : Items) (place : Place) → d ≡ array ds → place_items ds ≡ Some place → WritesPlace d place
place_items-Some d no_items place is h = cc
place_items-Some d (item e ds) place is h =
    let start = some_step (place_start e) _ place h in
    let steps = some_step (steps_from ds) _ place start.2 in
    let whole : record { start = start.0; steps = steps.0 } ≡ place = cc in
    subst (WritesPlace d) whole (e, place_start-Some e start.0 start.1, is ∙ ap (λ l. array (item e l)) (sym (steps_from-Some ds steps.0 steps.1)))

place_from-Some : (d : Data) (place : Place) → place_from d ≡ Some place → WritesPlace d place
place_from-Some d place h =
    let items = some_step (as_array d) place_items place h in
    place_items-Some d items.0 place (as_array-Some d items.0 items.1) items.2

-- ---- what is written asks what it says

asks_change : (at : Data) (place : Place) (change : Mutation) → WritesPlace at place → is_change change ≡ true
    → ask_from (change_ask_data at change) ≡ Ok (Act (Change place change))
asks_change at place (Assign val) h k = rw (place_from-of at place h, val_of-put val k) refl
asks_change at place (Insert val) h k = rw (place_from-of at place h, val_of-put val k) refl
asks_change at place Delete h k = rw (place_from-of at place h) refl
asks_change at place (Add n) h k = rw (place_from-of at place h, int_of-of_integer n k) refl

asks_look : (at : Data) (place : Place) (look : Look) → WritesPlace at place → ask_from (worded (look_word look) (at ∷ [])) ≡ Ok (Read (query.Look look place))
asks_look at place Keys h = rw (place_from-of at place h) refl
asks_look at place look h = rw (place_from-of at place h) refl

vals_of-written : (vals : List Val) → list_all (λ val. is_change (Insert val)) vals ≡ true → vals_of (items_of (map val_data vals)) ≡ Ok vals
vals_of-written [] h = refl
vals_of-written (val ∷ vals) h =
    let parts = and_parts (is_change (Insert val)) (list_all (λ v. is_change (Insert v)) vals) h in
    rw (val_of-put val parts.0, vals_of-written vals parts.1) refl

vals_from-written : (vals : List Val) → has_some vals ≡ true → list_all (λ val. is_change (Insert val)) vals ≡ true
    → vals_from (list_data (map val_data vals)) ≡ Ok vals
vals_from-written [] some h = cc
vals_from-written (val ∷ vals) some h = vals_of-written (val ∷ vals) h

pub asks_written : (d : Data) (asked : Ask) → AsksFor d asked → ask_from d ≡ Ok asked
asks_written d (Act (Change place change)) (at, written, is, within) = ap ask_from is ∙ asks_change at place change written within
asks_written d (Act (Deliver op)) (is, within) = ap ask_from is ∙ rw (op_from-wire op within) refl
asks_written d (Act (Forget id)) (is, within) = ap ask_from is ∙ rw (id_from-id_data id within) refl
asks_written d (Run (Inserts place vals)) (at, written, is, within) =
    let parts = and_parts (has_some vals) (list_all (λ val. is_change (Insert val)) vals) within in
    ap ask_from is ∙ rw (place_from-of at place written, vals_from-written vals parts.0 parts.1) refl
asks_written d (Run (Deletes place count)) (at, written, is, within) =
    ap ask_from is ∙ rw (within, place_from-of at place written) refl
asks_written d (Read (query.Resolve place)) (at, written, is) = ap ask_from is ∙ rw (place_from-of at place written) refl
asks_written d (Read (query.Index place)) (at, written, is) = ap ask_from is ∙ rw (place_from-of at place written) refl
asks_written d (Read (query.Look look place)) (at, written, is) = ap ask_from is ∙ asks_look at place look written
asks_written d (Read (query.Operations front limit)) (is, within) =
    let parts = and_parts (list_all is_entry front && is_ascending front) (nat_le 1 limit && nat_le limit 64) within in
    let order = and_parts (list_all is_entry front) (is_ascending front) parts.0 in
    ap ask_from is ∙ rw (parts.1, front_of_json-front_data front order.0, order.1) refl
asks_written d (Read (query.Chains after front)) (is, within) =
    let parts = and_parts (list_all is_entry after && list_all is_entry front) (is_ascending after && is_ascending front) within in
    let entries = and_parts (list_all is_entry after) (list_all is_entry front) parts.0 in
    ap ask_from is ∙ rw (front_of_json-front_data after entries.0, front_of_json-front_data front entries.1, parts.1) refl
asks_written d (Read (query.State Front)) is = ap ask_from is
asks_written d (Read (query.State Held)) is = ap ask_from is
asks_written d (Read query) h = absurd h

-- ---- what asks something is written so

abbrev OkWrites : List ℕ → List Data → Result Ask Refusal → Type 0
OkWrites verb ds r = (asked : Ask) → r ≡ Ok asked → AsksFor (worded verb ds) asked

deletion-Ok : (verb : List ℕ) (a : Data) → verb ≡ codes "delete" → OkWrites verb (a ∷ []) (ask_deletion a)
deletion-Ok verb a is asked h =
    let place = found_step (place_from a) BadRequest _ asked h in
    let same : Act (Change place.0 Delete) ≡ asked = cc in
    subst (AsksFor (worded verb (a ∷ []))) same (a, place_from-Some a place.0 place.1, ap (λ w. worded w (a ∷ [])) is, refl)

delivery-Ok : (verb : List ℕ) (a : Data) → verb ≡ codes "deliver" → OkWrites verb (a ∷ []) (ask_delivery a)
delivery-Ok verb a is asked h =
    let op = ok_step (op_from a) _ asked h in
    let same : Act (Deliver op.0) ≡ asked = cc in
    let made = ReadsOp-from_answer a (Ok op.0) (λ _. sym op.1) in
    subst (AsksFor (worded verb (a ∷ []))) same ((λ i. worded (is i) (sym made.0 i ∷ [])), made.1)

forgetting-Ok : (verb : List ℕ) (a : Data) → verb ≡ codes "forget" → OkWrites verb (a ∷ []) (ask_forgetting a)
forgetting-Ok verb a is asked h =
    let id = option_map-Some (λ id. Act (Forget id)) (id_from a) asked (ok_or-Ok _ BadRequest asked h) in
    let made = ReadsId-from_answer a (Some id.0) id.1 in
    subst (AsksFor (worded verb (a ∷ []))) id.2 ((λ i. worded (is i) (sym made.0 i ∷ [])), made.1)

where-Ok : (verb : List ℕ) (a : Data) → verb ≡ codes "cursor" → OkWrites verb (a ∷ []) (ask_where a)
where-Ok verb a is asked h =
    let place = found_step (place_from a) BadRequest _ asked h in
    let same : Read (query.Resolve place.0) ≡ asked = cc in
    subst (AsksFor (worded verb (a ∷ []))) same (a, place_from-Some a place.0 place.1, ap (λ w. worded w (a ∷ [])) is)

index-Ok : (verb : List ℕ) (a : Data) → verb ≡ codes "index" → OkWrites verb (a ∷ []) (ask_index a)
index-Ok verb a is asked h =
    let place = found_step (place_from a) BadRequest _ asked h in
    let same : Read (query.Index place.0) ≡ asked = cc in
    subst (AsksFor (worded verb (a ∷ []))) same (a, place_from-Some a place.0 place.1, ap (λ w. worded w (a ∷ [])) is)

look-Ok : (verb : List ℕ) (a : Data) → OkWrites verb (a ∷ []) (ask_look verb a)
look-Ok verb a asked h =
    let look = found_step (look_of verb) BadRequest _ asked h in
    let place = found_step (place_from a) BadRequest _ asked look.2 in
    let same : Read (query.Look look.0 place.0) ≡ asked = cc in
    subst (AsksFor (worded verb (a ∷ []))) same (a, place_from-Some a place.0 place.1, ap (λ w. worded w (a ∷ [])) (look_of-Some verb look.0 look.1))

short_ask-Ok : (verb : List ℕ) (a : Data) → OkWrites verb (a ∷ []) (short_ask verb a)
short_ask-Ok verb a =
    by_word (OkWrites verb (a ∷ [])) verb (codes "delete") _ _ (deletion-Ok verb a)
    (by_word (OkWrites verb (a ∷ [])) verb (codes "deliver") _ _ (delivery-Ok verb a)
    (by_word (OkWrites verb (a ∷ [])) verb (codes "forget") _ _ (forgetting-Ok verb a)
    (by_word (OkWrites verb (a ∷ [])) verb (codes "cursor") _ _ (where-Ok verb a)
    (by_word (OkWrites verb (a ∷ [])) verb (codes "index") _ _ (index-Ok verb a) (look-Ok verb a)))))

ops-Ok : (verb : List ℕ) (a b : Data) → verb ≡ codes "ops" → OkWrites verb (a ∷ b ∷ []) (ask_ops a b)
ops-Ok verb a b is asked h =
    let limit = found_step (limit_from b) BadRequest _ asked h in
    let front = ok_step (and_then (ok_or (front_of_json a) BadRequest) in_order) _ asked limit.2 in
    let entries = found_step (front_of_json a) BadRequest in_order front.0 front.1 in
    let order = if_Ok (is_ascending entries.0) BadFront entries.0 front.0 entries.2 in
    let whole : Read (query.Operations front.0 limit.0) ≡ asked = cc in
    let same : Read (query.Operations entries.0 limit.0) ≡ asked = ap (λ f. Read (query.Operations f limit.0)) order.1 ∙ whole in
    let read = ReadsFront-from_answer a (Ok entries.0) (λ _. sym (ap (λ o. ok_or o BadOperation) entries.1)) in
    let bound = limit_from-Some b limit.0 limit.1 in
    subst (AsksFor (worded verb (a ∷ b ∷ []))) same
    ((λ i. worded (is i) (sym read.0 i ∷ sym bound.0 i ∷ [])), both_hold _ _ (both_hold _ _ read.1 order.0) bound.1)

chains-Ok : (verb : List ℕ) (a b : Data) → verb ≡ codes "chains" → OkWrites verb (a ∷ b ∷ []) (ask_chains a b)
chains-Ok verb a b is asked h =
    let fronts = ok_step (fronts_from a b) _ asked h in
    let first = found_step (front_of_json a) BadRequest _ fronts.0 fronts.1 in
    let second = found_step (front_of_json b) BadRequest _ fronts.0 first.2 in
    let order = if_Ok (is_ascending first.0 && is_ascending second.0) BadFront (first.0, second.0) fronts.0 second.2 in
    let whole : Read (query.Chains (fronts.0).0 (fronts.0).1) ≡ asked = cc in
    let same : Read (query.Chains first.0 second.0) ≡ asked =
    ap (λ (f : List (List ℕ × ℕ) × List (List ℕ × ℕ)). Read (query.Chains f.0 f.1)) order.1 ∙ whole in
    let read_first = ReadsFront-from_answer a (Ok first.0) (λ _. sym (ap (λ o. ok_or o BadOperation) first.1)) in
    let read_second = ReadsFront-from_answer b (Ok second.0) (λ _. sym (ap (λ o. ok_or o BadOperation) second.1)) in
    subst (AsksFor (worded verb (a ∷ b ∷ []))) same
    ((λ i. worded (is i) (sym read_first.0 i ∷ sym read_second.0 i ∷ [])), both_hold _ _ (both_hold _ _ read_first.1 read_second.1) order.0)

-- without its second item: the document's name
abbrev unnamed : Data → Data
unnamed (array (item verb (item name ds))) = array (item verb ds)
unnamed d = d

unnamed_change : (at : Data) (change : Mutation) → change_ask_data at change ≡ unnamed (change_data [] at change)
unnamed_change at (Assign val) = refl
unnamed_change at (Insert val) = refl
unnamed_change at Delete = refl
unnamed_change at (Add n) = refl

change-Ok : (verb : List ℕ) (a b : Data) → OkWrites verb (a ∷ b ∷ []) (ask_change verb a b)
change-Ok verb a b asked h =
    let place = found_step (place_from a) BadRequest _ asked h in
    let change = ok_step (mutation_of_verb verb b) _ asked place.2 in
    let same : Act (Change place.0 change.0) ≡ asked = cc in
    let puts = mutation_of_verb-Ok verb b change.0 change.1 [] a in
    subst (AsksFor (worded verb (a ∷ b ∷ []))) same
    (a, place_from-Some a place.0 place.1, sym (unnamed_change a change.0 ∙ ap unnamed puts.0), puts.1)

some_vals : (vals : List Val) (e : Data) (ds : Items) → items_of (map val_data vals) ≡ item e ds → has_some vals ≡ true
some_vals [] e ds h = cc
some_vals (val ∷ vals) e ds h = refl

-- values that are read are written so, and within the limits
put_of-Ok : (d : Data) (val : Val) → val_of d ≡ Ok val → is_change (Insert val) ≡ true
put_of-Ok d val h = (mutation_of_verb-Ok (codes "insert") d (Insert val) (rw h refl) [] d).1

vals_of-Ok : (ds : Items) (vals : List Val) → vals_of ds ≡ Ok vals
    → (items_of (map val_data vals) ≡ ds) × (list_all (λ val. is_change (Insert val)) vals ≡ true)
vals_of-Ok no_items vals h = let none : vals ≡ [] = cc in rw none (refl, refl)
vals_of-Ok (item d ds) vals h =
    let first = ok_step (val_of d) _ vals h in
    let rest = ok_step (vals_of ds) _ vals first.2 in
    let whole : vals ≡ first.0 ∷ rest.0 = cc in
    let more = vals_of-Ok ds rest.0 rest.1 in
    rw whole ((λ i. item (val_of-Ok d first.0 first.1 i) (more.0 i)), both_hold _ _ (put_of-Ok d first.0 first.1) more.1)

vals_from-Ok : (d : Data) (vals : List Val) → vals_from d ≡ Ok vals
    → (list_data (map val_data vals) ≡ d) × ((has_some vals && list_all (λ val. is_change (Insert val)) vals) ≡ true)
vals_from-Ok d vals h =
    let found = found_step (as_array d >>= some_items) BadRequest vals_of vals h in
    let items = some_step (as_array d) some_items found.0 found.1 in
    go items.0 found.0 items.2 (as_array-Some d items.0 items.1) (vals_of-Ok found.0 vals found.2)
  where
    go : (ds es : Items) → some_items ds ≡ Some es → d ≡ array ds
        → (items_of (map val_data vals) ≡ es) × (list_all (λ val. is_change (Insert val)) vals ≡ true)
        → (list_data (map val_data vals) ≡ d) × ((has_some vals && list_all (λ val. is_change (Insert val)) vals) ≡ true)
    go no_items es is at read = cc
    go (item e ds) es is at read =
        let same : es ≡ item e ds = cc in
        (ap array (read.0 ∙ same) ∙ sym at, both_hold _ _ (some_vals vals e ds (read.0 ∙ same)) read.1)

inserts-Ok : (verb : List ℕ) (a b : Data) → verb ≡ codes "inserts" → OkWrites verb (a ∷ b ∷ []) (ask_inserts a b)
inserts-Ok verb a b is asked h =
    let place = found_step (place_from a) BadRequest _ asked h in
    let vals = ok_step (vals_from b) _ asked place.2 in
    let same : Run (Inserts place.0 vals.0) ≡ asked = cc in
    let read = vals_from-Ok b vals.0 vals.1 in
    subst (AsksFor (worded verb (a ∷ b ∷ []))) same
    (a, place_from-Some a place.0 place.1, (λ i. worded (is i) (a ∷ sym read.0 i ∷ [])), read.1)

count_from-Some : (d : Data) (count : ℕ) → count_from d ≡ Some count → (number (unsigned count) ≡ d) × (nat_le 1 count ≡ true)
count_from-Some null count h = cc
count_from-Some (boolean b) count h = cc
count_from-Some (number m) count h =
    let n = some_step (as_u64 m) some_count count h in
    let made = some_if-Some _ n.0 count n.2 in
    (ap (λ k. number (unsigned k)) (sym made.1) ∙ ap number (sym (as_u64-Some m n.0 n.1)), ap (nat_le 1) (sym made.1) ∙ made.0)
count_from-Some (string s) count h = cc
count_from-Some (array ds) count h = cc
count_from-Some (object ms) count h = cc

deletes-Ok : (verb : List ℕ) (a b : Data) → verb ≡ codes "deletes" → OkWrites verb (a ∷ b ∷ []) (ask_deletes a b)
deletes-Ok verb a b is asked h =
    let count = found_step (count_from b) BadRequest _ asked h in
    let place = found_step (place_from a) BadRequest _ asked count.2 in
    let same : Run (Deletes place.0 count.0) ≡ asked = cc in
    let read = count_from-Some b count.0 count.1 in
    subst (AsksFor (worded verb (a ∷ b ∷ []))) same
    (a, place_from-Some a place.0 place.1, (λ i. worded (is i) (a ∷ sym read.0 i ∷ [])), read.1)

long_ask-Ok : (verb : List ℕ) (a b : Data) → OkWrites verb (a ∷ b ∷ []) (long_ask verb a b)
long_ask-Ok verb a b =
    by_word (OkWrites verb (a ∷ b ∷ [])) verb (codes "ops") _ _ (ops-Ok verb a b)
    (by_word (OkWrites verb (a ∷ b ∷ [])) verb (codes "chains") _ _ (chains-Ok verb a b)
    (by_word (OkWrites verb (a ∷ b ∷ [])) verb (codes "inserts") _ _ (inserts-Ok verb a b)
    (by_word (OkWrites verb (a ∷ b ∷ [])) verb (codes "deletes") _ _ (deletes-Ok verb a b) (change-Ok verb a b))))

abbrev SomeWrites : List ℕ → Option Ask → Type 0
SomeWrites verb o = (asked : Ask) → o ≡ Some asked → AsksFor (worded verb []) asked

front-Some : (verb : List ℕ) → verb ≡ codes "front" → SomeWrites verb (Some (Read (query.State Front)))
front-Some verb is asked h =
    let same : Read (query.State Front) ≡ asked = cc in
    subst (AsksFor (worded verb [])) same (ap (λ w. worded w []) is)

held-Some : (verb : List ℕ) → SomeWrites verb (some_if (bytes_eq verb (codes "held")) (Read (query.State Held)))
held-Some verb asked h =
    let made = some_if-Some (bytes_eq verb (codes "held")) (Read (query.State Held)) asked h in
    subst (AsksFor (worded verb [])) made.1 (ap (λ w. worded w []) ((bytes_eq-Decides verb (codes "held")).0 made.0))

plain_ask-Some : (verb : List ℕ) → SomeWrites verb (plain_ask verb)
plain_ask-Some verb = by_word (SomeWrites verb) verb (codes "front") _ _ (front-Some verb) (held-Some verb)

-- a word that is read, and what comes after it
by_items : (verb : List ℕ) (ds : Items) (asked : Ask) → ask_by verb ds ≡ Ok asked → AsksFor (array (item (string verb) ds)) asked
by_items verb no_items asked h = plain_ask-Some verb asked (ok_or-Ok _ BadRequest asked h)
by_items verb (item a no_items) asked h = short_ask-Ok verb a asked h
by_items verb (item a (item b no_items)) asked h = long_ask-Ok verb a b asked h
by_items verb (item a (item b (item c ds))) asked h = cc

items_write : (d : Data) (ds : Items) (asked : Ask) → d ≡ array ds → ask_items ds ≡ Ok asked → AsksFor d asked
items_write d no_items asked is h = cc
items_write d (item verb ds) asked is h =
    let v = found_step (as_str verb) BadRequest _ asked h in
    let same : array (item (string v.0) ds) ≡ d = ap (λ e. array (item e ds)) (sym (as_str-Some verb v.0 v.1)) ∙ sym is in
    subst (λ e. AsksFor e asked) same (by_items v.0 ds asked v.2)

written_from : (d : Data) (asked : Ask) → ask_from d ≡ Ok asked → AsksFor d asked
written_from d asked h =
    let items = found_step (as_array d) BadRequest ask_items asked h in
    items_write d items.0 asked (as_array-Some d items.0 items.1) items.2

pub written_line : (line : List ℕ) (asked : Ask) → ask_of line ≡ Ok asked → (d : Data) × (line_data line ≡ Some d) × AsksFor d asked
written_line line asked h =
    let d = found_step (line_data line) NotJson ask_from asked h in
    (d.0, d.1, written_from d.0 asked d.2)

-- ---- stored lines

pub never_memory : (o : Option Data) → and_then (ok_or o NotJson) op_from ≢ Err NoMemory
never_memory None is = cc
never_memory (Some d) is = op_from-never_memory d is
