-- The compact text of a value of whole numbers, with no member in its objects, reads as that value.
use Rattle.std.proofs.Common.{◌≡◌, ℕ, ◌++◌, ◌^◌, ◌<◌, ◌≤◌, pos, negsuc, ℤ, Bool, true, leb, ◌&&◌, List, [], ◌∷◌, map, Some, option_map, option_and_then, refl, sym, ap, ◌∙◌, arith, append-nil}
use Rattle.std.specs.Prelude.{⊤}
use Rattle.json.specs.Lex.{tokens}
use Rattle.json.specs.Json as json
use Rattle.json.specs.Tree as tree
use Rattle.json.specs.Print.{IsNumber}
use Rattle.json.proofs.Printed.Decimals.{IsNumber-decimal, IsNumber-signed_decimal}
use Rattle.json.proofs.Printed.Tokens.{tokens-print}
use Rattle.json.proofs.Printed.Trees.{value-json_tokens, ArePrintable-json_tokens}
use Rattle.serde_json.specs.Data.{Num, unsigned, negative, float, Data, null, boolean, number, string, array, object, Items, no_items, item, no_members, member, depth, items_depth}
use Rattle.serde_json.specs.Read.{number_of, of_json, of_items, read, max_depth}
use Rattle.serde_json.specs.Written.{number_text, outline, items_outline, compact_text}
use Rattle.serde_json.proofs.Numbers.{number_of-decimal, number_of-negative}
use Rattle.serde_json.proofs.Texts.{print-outline}
use Rattle.std.specs.List.{list_all}
use Rattle.std.proofs.lemmas.Bool.{leb-true, ltb-true, and_parts}
use Rattle.serde_json.specs.Find.{of_integer}
use Rattle.serde_json.specs.View.{items_of}
use Rattle.lamport_id.specs.Limits.{greatest_counter}
use Rattle.lamport_id.specs.Name.{is_name}
use Rattle.doc_api.specs.Words.{Id, Val, Op, Key, Tagged, Mutation, Assign, Insert, Delete, Add}
use Rattle.json_scalar.specs.Scalar.{val_data, is_val}
use Rattle.json_scalar.specs.declared.scalar.Scalar.TheVariants.{Int, Text as Words, Bool as Truth, Null}
use Rattle.json_scalar.specs.declared.scalar.Val.TheVariants.{Scalar as Plain, EmptyMap, EmptyList}
use Rattle.version_vector.specs.Front.{id_of}
use Rattle.op_core.specs.Shape.{is_id, is_entry, is_key, is_tagged, is_mutation, is_placed, is_allowed, is_shallow, has_parts, has_form, has_front, is_shaped}
use Rattle.op_core.specs.Wire.{entry_data, key_data, tagged_data, mutation_data, wire}
use Rattle.op_core.specs.declared.cursor.Key.TheVariants.{Doc, Text, Element, Head}
use Rattle.op_core.specs.declared.cursor.Tagged.TheVariants as tagged

abbrev pub IsWhole : Num → Type 0
IsWhole (unsigned n) = n < 2 ^ 64
IsWhole (negative (pos n)) = ⊥
IsWhole (negative (negsuc n)) = n < 2 ^ 63
IsWhole (float x) = ⊥

abbrev mutual
  pub IsSimple : Data → Type 0
  IsSimple null = ⊤
  IsSimple (boolean b) = ⊤
  IsSimple (number n) = IsWhole n
  IsSimple (string s) = ⊤
  IsSimple (array ds) = AreSimple ds
  IsSimple (object ms) = ms ≡ no_members

  pub AreSimple : Items → Type 0
  AreSimple no_items = ⊤
  AreSimple (item d ds) = IsSimple d × AreSimple ds

number_back : (n : Num) → IsWhole n → number_of (number_text n) ≡ Some n
number_back (unsigned n) h = number_of-decimal n h
number_back (negative (pos n)) h = absurd h
number_back (negative (negsuc n)) h = number_of-negative n h
number_back (float x) h = absurd h

number_is : (n : Num) → IsWhole n → IsNumber (number_text n)
number_is (unsigned n) h = IsNumber-decimal n h
number_is (negative (pos n)) h = absurd h
number_is (negative (negsuc n)) h = IsNumber-signed_decimal (negsuc n) (omega arith)
number_is (float x) h = absurd h

mutual
  json_back : (d : Data) → IsSimple d → of_json (outline d) ≡ Some d
  json_back null h = refl
  json_back (boolean b) h = refl
  json_back (number n) h = ap (option_map number) (number_back n h)
  json_back (string s) h = refl
  json_back (array ds) h = ap (option_map array) (items_back ds h)
  json_back (object no_members) h = refl
  json_back (object (member k d ms)) h = absurd cc

  items_back : (ds : Items) → AreSimple ds → of_items (items_outline ds) ≡ Some ds
  items_back no_items h = refl
  items_back (item d ds) h = rw (json_back d h.0, items_back ds h.1) refl

mutual
  has_numbers : (d : Data) → IsSimple d → tree.HasNumbers (outline d)
  has_numbers null h = tt
  has_numbers (boolean b) h = tt
  has_numbers (number n) h = number_is n h
  has_numbers (string s) h = tt
  has_numbers (array ds) h = items_have_numbers ds h
  has_numbers (object no_members) h = tt
  has_numbers (object (member k d ms)) h = absurd cc

  items_have_numbers : (ds : Items) → AreSimple ds → tree.ItemsHaveNumbers (items_outline ds)
  items_have_numbers no_items h = tt
  items_have_numbers (item d ds) h = (has_numbers d h.0, items_have_numbers ds h.1)

mutual
  same_depth : (d : Data) → IsSimple d → tree.depth (outline d) ≤ depth d
  same_depth null h = omega arith
  same_depth (boolean b) h = omega arith
  same_depth (number n) h = omega arith
  same_depth (string s) h = omega arith
  same_depth (array ds) h = omega (arith, same_items_depth ds h)
  same_depth (object no_members) h = omega arith
  same_depth (object (member k d ms)) h = absurd cc

  same_items_depth : (ds : Items) → AreSimple ds → tree.items_depth (items_outline ds) ≤ items_depth ds
  same_items_depth no_items h = omega arith
  same_items_depth (item d ds) h = omega (arith, same_depth d h.0, same_items_depth ds h.1)

pub read-compact_text : (d : Data) → IsSimple d → depth d ≤ max_depth → read (compact_text d) ≡ Some d
read-compact_text d simple shallow =
    let j = outline d in
    let ts = tree.json_tokens j in
    let lexed : tokens (compact_text d) ≡ ts ++ [] = ap tokens (sym (print-outline d)) ∙ tokens-print ts (ArePrintable-json_tokens j (has_numbers d simple)) ∙ sym (append-nil ts) in
    let parsed = ap (json.value max_depth) lexed ∙ value-json_tokens j max_depth [] (omega (arith, same_depth d simple, shallow)) in
    ap (λ o. option_and_then of_json (option_and_then (λ p. json.if_last p.0 p.1) o)) parsed ∙ json_back d simple

-- ---- the written form of an operation is such a value

small : (id : Id) → is_id id ≡ true → id.counter < 2 ^ 64
small id h = let last = (and_parts (is_name id.replica && leb 1 id.counter) (leb id.counter greatest_counter) h).1 in omega (arith, leb-true id.counter 100000 last)

simple_number : (z : ℤ) → is_val (Plain (Int z)) ≡ true → IsWhole (of_integer z)
simple_number (pos n) h = omega (arith, ltb-true n (2 ^ 63) h)
simple_number (negsuc n) h = ltb-true n (2 ^ 63) h

simple_val : (val : Val) → is_val val ≡ true → IsSimple (val_data val)
simple_val (Plain (Int z)) h = simple_number z h
simple_val (Plain (Words text)) h = tt
simple_val (Plain (Truth b)) h = tt
simple_val (Plain Null) h = tt
simple_val EmptyMap h = refl
simple_val EmptyList h = tt

simple_mutation : (mutation : Mutation) → is_mutation mutation ≡ true → IsSimple (mutation_data mutation)
simple_mutation (Assign val) h = (tt, (simple_val val h, tt))
simple_mutation (Insert val) h = (tt, (simple_val val h, tt))
simple_mutation Delete h = (tt, tt)
simple_mutation (Add n) h = (tt, (simple_number n h, tt))

simple_key : (key : Key) → is_key key ≡ true → IsSimple (key_data key)
simple_key Doc h = omega arith
simple_key (Text text) h = tt
simple_key (Element id) h = (small id h, (tt, tt))
simple_key Head h = omega arith

simple_tagged : (t : Tagged) → is_tagged t ≡ true → IsSimple (tagged_data t)
simple_tagged (tagged.Map key) h = (tt, (simple_key key h, tt))
simple_tagged (tagged.List key) h = (tt, (simple_key key h, tt))

simple_each : {A : Type 0} (f : A → Data) (test : A → Bool) → ((x : A) → test x ≡ true → IsSimple (f x)) → (xs : List A) → list_all test xs ≡ true → AreSimple (items_of (map f xs))
simple_each f test h [] all = tt
simple_each f test h (x ∷ xs) all = let p = and_parts (test x) (list_all test xs) all in (h x p.0, simple_each f test h xs p.1)

simple_wire : (op : Op) → has_parts op ≡ true → IsSimple (wire op)
simple_wire op h =
    let fourth = and_parts (is_id op.id && list_all is_entry op.front && (list_all is_tagged op.cursor.path && is_key op.cursor.key)) (is_mutation op.mutation) h in
    let third = and_parts (is_id op.id && list_all is_entry op.front) (list_all is_tagged op.cursor.path && is_key op.cursor.key) fourth.0 in
    let second = and_parts (is_id op.id) (list_all is_entry op.front) third.0 in
    let cursor = and_parts (list_all is_tagged op.cursor.path) (is_key op.cursor.key) third.1 in
    let front = simple_each entry_data is_entry (λ entry ok. (tt, (small (id_of entry) ok, tt))) op.front second.1 in
    let path = simple_each tagged_data is_tagged simple_tagged op.cursor.path cursor.0 in
    (tt, ((small op.id second.0, (tt, tt)), (front, ((path, (simple_key op.cursor.key cursor.1, tt)), (simple_mutation op.mutation fourth.1, tt)))))

-- ---- and nests little

flat_each : {A : Type 0} (f : A → Data) (n : ℕ) → ((x : A) → depth (f x) ≤ n) → (xs : List A) → items_depth (items_of (map f xs)) ≤ n
flat_each f n h [] = omega arith
flat_each f n h (x ∷ xs) = omega (arith, h x, flat_each f n h xs)

flat_val : (val : Val) → depth (val_data val) ≤ 1
flat_val (Plain (Int z)) = omega arith
flat_val (Plain (Words text)) = omega arith
flat_val (Plain (Truth b)) = omega arith
flat_val (Plain Null) = omega arith
flat_val EmptyMap = omega arith
flat_val EmptyList = omega arith

flat_mutation : (mutation : Mutation) → depth (mutation_data mutation) ≤ 2
flat_mutation (Assign val) = omega (arith, flat_val val)
flat_mutation (Insert val) = omega (arith, flat_val val)
flat_mutation Delete = omega arith
flat_mutation (Add n) = omega arith

flat_key : (key : Key) → depth (key_data key) ≤ 1
flat_key Doc = omega arith
flat_key (Text text) = omega arith
flat_key (Element id) = omega arith
flat_key Head = omega arith

flat_tagged : (t : Tagged) → depth (tagged_data t) ≤ 2
flat_tagged (tagged.Map key) = omega (arith, flat_key key)
flat_tagged (tagged.List key) = omega (arith, flat_key key)

flat_wire : (op : Op) → depth (wire op) ≤ 5
flat_wire op =
    omega (arith, flat_each entry_data 1 (λ entry. omega arith) op.front, flat_each tagged_data 2 flat_tagged op.cursor.path, flat_key op.cursor.key, flat_mutation op.mutation)

-- the text of an operation reads as its written form
pub read-wire : (op : Op) → is_shaped op ≡ true → read (compact_text (wire op)) ≡ Some (wire op)
read-wire op h =
    let first = and_parts (is_shallow op.cursor.path && has_form op) (has_front op) h in
    let second = and_parts (is_shallow op.cursor.path) (has_form op) first.0 in
    let third = and_parts (has_parts op && is_placed op.cursor.path op.cursor.key) (is_allowed op.mutation op.cursor) second.1 in
    let parts = and_parts (has_parts op) (is_placed op.cursor.path op.cursor.key) third.0 in
    read-compact_text (wire op) (simple_wire op parts.0) (omega (arith, flat_wire op))
