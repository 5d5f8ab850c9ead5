-- What is read has the JSON that it was read from, and is within the limits.
use Rattle.std.proofs.Common.{◌≡◌, ℕ, ℤ, pos, negsuc, zero, suc, ◌^◌, ◌&&◌, nat_le, nat_lt, Bool, true, false, cond, List, [], ◌∷◌, map, codes, length, Option, Some, None, option_map, Result, Ok, Err, ok_or, IfOk, IsTrue, refl, sym, ap, ◌∙◌}
use Rattle.std.specs.Str.{bytes_eq}
use Rattle.std.proofs.lemmas.Slice.Eq.{bytes_eq-Decides}
use Rattle.std.proofs.lemmas.Option.{cond_some}
use Rattle.serde_json.specs.Data.{Num, unsigned, negative, float, Data, null, boolean, number, string, array, object, Items, no_items, item, no_members, member}
use Rattle.serde_json.specs.Find.{as_u64, as_str, as_array}
use Rattle.serde_json.specs.View.{items_of}
use Rattle.doc_api.specs.Words.{UnlessMemory, Refusal, Val, Mutation, Assign, Insert, Delete, Add}
use Rattle.json_scalar.specs.Refusal.{and_then}
use Rattle.json_scalar.specs.Scalar.{val_of, text_of, int_of}
use Rattle.json_scalar.specs.declared.refusal.Refusal.TheVariants.{NotJson, BadRequest, BadOperation, BadValue, BadFront}
use Rattle.json_scalar.specs.declared.scalar.Val.TheVariants.{Scalar, EmptyMap, EmptyList}
use Rattle.json_scalar.specs.declared.scalar.Scalar.TheVariants.{Int, Text, Bool as Truth, Null}
use Rattle.json_scalar.proofs.Readings.{ok_step, val_of-Ok}
use Rattle.version_vector.specs.Front.{is_ascending}
use Rattle.op_core.specs.Reading.{id_from, front_of_json, op_from}
use Rattle.op_core.specs.Wire.{list_data}
use Rattle.op_core.proofs.Wires.{some_step, option_map-Some, as_u64-Some, some_if-Some, as_array-Some, as_str-Some, both_items, ReadsId-from_answer, ReadsFront-from_answer}
use Rattle.op_core.proofs.Operations.{ReadsOp-from_answer}
use Rattle.doc_api.specs.declared.place.Step.{Step}
use Rattle.doc_api.specs.declared.place.Step.TheVariants.{Get, Index}
use Rattle.doc_api.specs.declared.ask.Look.{Look}
use Rattle.line_proto.specs.Reading.{step_from, steps_from, variable_of, variable_from, start_of_number, start_from, expr_items, expr_from, named, bare_requests, bare_request, states, state_of_word, plain_request, looks, look_of, look_from, deletion_request, delivery_from, forgetting_from, copied_from, short_request, naming_from, limit_of, limit_from, in_order, ops_from, both_in_order, fronts_from, chains_from, amount_of, addition_of, mutation_of_verb, change_request, long_request, doc_request_items, bare_from, named_from, request_items, request_from, line_data, request_of}
use Rattle.line_proto.specs.Written.{start_data, step_data, expr_data, asks, state_word, look_word, change_data, doc_request_data, request_data, is_variable, is_start, is_amount, is_put, is_change, is_doc_request, is_request}
use Rattle.line_proto.specs.declared.request.Start.{Start}
use Rattle.line_proto.specs.declared.request.Start.TheVariants.{Document, Variable}
use Rattle.line_proto.specs.declared.request.CursorExpr.{CursorExpr}
use Rattle.line_proto.specs.declared.request.DocRequest.{DocRequest}
use Rattle.line_proto.specs.declared.request.DocRequest.TheVariants as ask
use Rattle.line_proto.specs.declared.request.Request.{Request}
use Rattle.line_proto.specs.declared.request.Request.TheVariants.{Of}

-- ---- steps

-- a step that is refused where there is none
pub found_step : {A B : Type 0} (o : Option A) (e : Refusal) (f : A → Result B Refusal) (y : B) → and_then (ok_or o e) f ≡ Ok y → (x : A) × (o ≡ Some x) × (f x ≡ Ok y)
found_step (Some x) e f y h = (x, refl, h)
found_step None e f y h = cc

pub ok_or-Ok : {A : Type 0} (o : Option A) (e : Refusal) (y : A) → ok_or o e ≡ Ok y → o ≡ Some y
ok_or-Ok (Some x) e y h = let same : x ≡ y = cc in ap Some same
ok_or-Ok None e y h = cc

pub if_Ok : {A : Type 0} (b : Bool) (e : Refusal) (x y : A) → cond b (Ok x) (Err e) ≡ Ok y → (b ≡ true) × (x ≡ y)
if_Ok true e x y h = (refl, cc)
if_Ok false e x y h = cc

-- what holds where the verb is this word, and else of what comes behind it
pub by_word : {A : Type 0} (P : A → Type 0) (verb word : List ℕ) (x y : A) → (verb ≡ word → P x) → P y → P (cond (bytes_eq verb word) x y)
by_word P verb word x y here behind = go (bytes_eq verb word) (bytes_eq-Decides verb word).0
  where
    go : (b : Bool) → (b ≡ true → verb ≡ word) → P (cond b x y)
    go true h = here (h refl)
    go false h = behind

-- what each entry of a table has, what is found by a word has with that word
named-Some : {X Y : Type 0} (f : X → Y) (g : List ℕ → Y) (table : List (List ℕ × X)) (verb : List ℕ) (x : X) → map (λ e. f e.1) table ≡ map (λ e. g e.0) table
    → named verb table ≡ Some x → f x ≡ g verb
named-Some f g [] verb x same h = cc
named-Some f g (e ∷ table) verb x same h =
    let first : f e.1 ≡ g e.0 = cc in
    let rest : map (λ e. f e.1) table ≡ map (λ e. g e.0) table = cc in
    go (bytes_eq verb e.0) (bytes_eq-Decides verb e.0).0 first (named-Some f g table verb x rest) h
  where
    go : (b : Bool) → (b ≡ true → verb ≡ e.0) → f e.1 ≡ g e.0 → (named verb table ≡ Some x → f x ≡ g verb)
        → cond b (Some e.1) (named verb table) ≡ Some x → f x ≡ g verb
    go true is first behind h = let found : e.1 ≡ x = cc in ap f (sym found) ∙ first ∙ ap g (sym (is refl))
    go false is first behind h = behind h

-- ---- cursor expressions

step_from-Some : (d : Data) (step : Step) → step_from d ≡ Some step → step_data step ≡ d
step_from-Some null step h = cc
step_from-Some (boolean b) step h = cc
step_from-Some (number n) step h =
    let index = option_map-Some Index (as_u64 n) step h in
    ap step_data (sym index.2) ∙ ap number (sym (as_u64-Some n index.0 index.1))
step_from-Some (string s) step h = let get : step ≡ Get s = cc in ap step_data get
step_from-Some (array ds) step h = cc
step_from-Some (object ms) step h = cc

pub steps_from-Some : (ds : Items) (steps : List Step) → steps_from ds ≡ Some steps → items_of (map step_data steps) ≡ ds
steps_from-Some no_items steps h = let none : steps ≡ [] = cc in rw none refl
steps_from-Some (item d ds) steps h =
    let first = some_step (step_from d) _ steps h in
    let rest = some_step (steps_from ds) _ steps first.2 in
    let whole : steps ≡ first.0 ∷ rest.0 = cc in
    ap (λ s. items_of (map step_data s)) whole ∙ both_items (step_from-Some d first.0 first.1) (steps_from-Some ds rest.0 rest.1)

variable_of-Some : (s name : List ℕ) → variable_of s ≡ Some name → (name ≡ s) × (is_variable name ≡ true)
variable_of-Some s name h = let made = some_if-Some _ s name h in (sym made.1, ap is_variable (sym made.1) ∙ made.0)

variable_from-Some : (d : Data) (name : List ℕ) → variable_from d ≡ Some name → (string name ≡ d) × (is_variable name ≡ true)
variable_from-Some d name h =
    let s = some_step (as_str d) variable_of name h in
    let made = variable_of-Some s.0 name s.2 in
    (ap string made.0 ∙ sym (as_str-Some d s.0 s.1), made.1)

start_of_number-Some : (n : Num) (o : Option ℕ) (start : Start) → as_u64 n ≡ o → start_of_number o ≡ Some start → (start_data start ≡ number n) × (is_start start ≡ true)
start_of_number-Some n None start is h = cc
start_of_number-Some n (Some zero) start is h =
    let document : start ≡ Document = cc in
    (ap start_data document ∙ ap number (sym (as_u64-Some n 0 is)), ap is_start document)
start_of_number-Some n (Some (suc m)) start is h = cc

start_from-Some : (d : Data) (start : Start) → start_from d ≡ Some start → (start_data start ≡ d) × (is_start start ≡ true)
start_from-Some null start h = cc
start_from-Some (boolean b) start h = cc
start_from-Some (number n) start h = start_of_number-Some n (as_u64 n) start refl h
start_from-Some (string s) start h =
    let name = option_map-Some Variable (variable_of s) start h in
    let made = variable_of-Some s name.0 name.1 in
    (ap start_data (sym name.2) ∙ ap string made.0, ap is_start (sym name.2) ∙ made.1)
start_from-Some (array ds) start h = cc
start_from-Some (object ms) start h = cc

expr_items-Some : (ds : Items) (expr : CursorExpr) → expr_items ds ≡ Some expr → (expr_data expr ≡ array ds) × (is_start expr.start ≡ true)
expr_items-Some no_items expr h = cc
expr_items-Some (item d ds) expr h =
    let start = some_step (start_from d) _ expr h in
    let steps = some_step (steps_from ds) _ expr start.2 in
    let whole : expr ≡ record { start = start.0; steps = steps.0 } = cc in
    let made = start_from-Some d start.0 start.1 in
    (ap expr_data whole ∙ ap array (both_items made.0 (steps_from-Some ds steps.0 steps.1)), ap (λ e. is_start e.start) whole ∙ made.1)

pub expr_from-Some : (d : Data) (expr : CursorExpr) → expr_from d ≡ Some expr → (expr_data expr ≡ d) × (is_start expr.start ≡ true)
expr_from-Some d expr h =
    let items = some_step (as_array d) expr_items expr h in
    let made = expr_items-Some items.0 expr items.2 in
    (made.0 ∙ sym (as_array-Some d items.0 items.1), made.1)

-- ---- values

int_of-within : (n : Num) (z : ℤ) → int_of n ≡ Some z → is_amount z ≡ true
int_of-within (unsigned n) z h = let made = cond_some (nat_lt n (2 ^ 63)) (pos n) z h in ap is_amount (sym made.1) ∙ made.0
int_of-within (negative (pos n)) z h = cc
int_of-within (negative (negsuc n)) z h = let same : z ≡ negsuc n = cc in ap is_amount same
int_of-within (float x) z h = cc

val_of-within : (d : Data) (val : Val) → val_of d ≡ Ok val → is_put val ≡ true
val_of-within null val h = let same : val ≡ Scalar Null = cc in ap is_put same
val_of-within (boolean b) val h = let same : val ≡ Scalar (Truth b) = cc in ap is_put same
val_of-within (number n) val h =
    let z = found_step (int_of n) BadValue _ val h in
    let same : val ≡ Scalar (Int z.0) = cc in
    ap is_put same ∙ int_of-within n z.0 z.1
val_of-within (string s) val h =
    let t = ok_step (text_of s) _ val h in
    let made = if_Ok (nat_le (length s) 4096) BadValue s t.0 t.1 in
    let same : val ≡ Scalar (Text t.0) = cc in
    ap is_put same ∙ ap (λ t. is_put (Scalar (Text t))) (sym made.1) ∙ made.0
val_of-within (array no_items) val h = let same : val ≡ EmptyList = cc in ap is_put same
val_of-within (array (item d ds)) val h = cc
val_of-within (object no_members) val h = let same : val ≡ EmptyMap = cc in ap is_put same
val_of-within (object (member k d ms)) val h = cc

amount_of-val : (d : Data) (n : ℤ) → amount_of d ≡ Some n → val_of d ≡ Ok (Scalar (Int n))
amount_of-val null n h = cc
amount_of-val (boolean b) n h = cc
amount_of-val (number m) n h = ap (λ o. and_then (ok_or o BadValue) (λ z. Ok (Scalar (Int z)))) h
amount_of-val (string s) n h = cc
amount_of-val (array ds) n h = cc
amount_of-val (object ms) n h = cc

-- ---- what is asked

-- what is asked is written with this word and these further items, and is within the limits
abbrev Writes : List ℕ → List ℕ → List Data → DocRequest → Type 0
Writes verb document ds asked = (doc_request_data document asked ≡ asks verb document ds) × (is_doc_request asked ≡ true)

abbrev OkWrites : List ℕ → List ℕ → List Data → Result DocRequest Refusal → Type 0
OkWrites verb document ds r = (asked : DocRequest) → r ≡ Ok asked → Writes verb document ds asked

abbrev SomeWrites : List ℕ → List ℕ → List Data → Option DocRequest → Type 0
SomeWrites verb document ds o = (asked : DocRequest) → o ≡ Some asked → Writes verb document ds asked

-- with one further item, and with two
writes_one : (verb word document : List ℕ) (a d : Data) (asked found : DocRequest) → verb ≡ word → d ≡ a → asked ≡ found
    → doc_request_data document found ≡ asks word document (d ∷ []) → is_doc_request found ≡ true → Writes verb document (a ∷ []) asked
writes_one verb word document a d asked found is at_a same form within =
    (ap (doc_request_data document) same ∙ form ∙ (λ i. asks (sym is i) document (at_a i ∷ [])), ap is_doc_request same ∙ within)

writes_two : (verb word document : List ℕ) (a b d e : Data) (asked found : DocRequest) → verb ≡ word → d ≡ a → e ≡ b → asked ≡ found
    → doc_request_data document found ≡ asks word document (d ∷ e ∷ []) → is_doc_request found ≡ true → Writes verb document (a ∷ b ∷ []) asked
writes_two verb word document a b d e asked found is at_a at_b same form within =
    (ap (doc_request_data document) same ∙ form ∙ (λ i. asks (sym is i) document (at_a i ∷ at_b i ∷ [])), ap is_doc_request same ∙ within)

pub both_hold : (a b : Bool) → a ≡ true → b ≡ true → (a && b) ≡ true
both_hold a b h k = rw (h, k) refl

deletion-Ok : (verb document : List ℕ) (a : Data) → verb ≡ codes "delete" → OkWrites verb document (a ∷ []) (deletion_request a)
deletion-Ok verb document a is asked h =
    let expr = found_step (expr_from a) BadRequest _ asked h in
    let same : asked ≡ ask.Change expr.0 Delete = cc in
    let made = expr_from-Some a expr.0 expr.1 in
    writes_one verb _ document a _ asked _ is made.0 same refl (both_hold _ _ made.1 refl)

delivery-Ok : (verb document : List ℕ) (a : Data) → verb ≡ codes "deliver" → OkWrites verb document (a ∷ []) (delivery_from a)
delivery-Ok verb document a is asked h =
    let op = ok_step (op_from a) _ asked h in
    let same : asked ≡ ask.Deliver op.0 = cc in
    let made = ReadsOp-from_answer a (Ok op.0) (λ _. sym op.1) in
    writes_one verb _ document a _ asked _ is made.0 same refl made.1

forgetting-Ok : (verb document : List ℕ) (a : Data) → verb ≡ codes "forget" → OkWrites verb document (a ∷ []) (forgetting_from a)
forgetting-Ok verb document a is asked h =
    let id = option_map-Some ask.Forget (id_from a) asked (ok_or-Ok _ BadRequest asked h) in
    let made = ReadsId-from_answer a (Some id.0) id.1 in
    writes_one verb _ document a _ asked _ is made.0 (sym id.2) refl made.1

copied-Ok : (verb document : List ℕ) (a : Data) → verb ≡ codes "copied" → OkWrites verb document (a ∷ []) (copied_from a)
copied-Ok verb document a is asked h =
    let id = option_map-Some ask.IsCopied (id_from a) asked (ok_or-Ok _ BadRequest asked h) in
    let made = ReadsId-from_answer a (Some id.0) id.1 in
    writes_one verb _ document a _ asked _ is made.0 (sym id.2) refl made.1

abbrev pub IsLookOf : List ℕ → Option Look → Type 0
IsLookOf verb o = (look : Look) → o ≡ Some look → verb ≡ look_word look

pub look_of-Some : (verb : List ℕ) → IsLookOf verb (look_of verb)
look_of-Some verb look h = sym (named-Some look_word (λ w. w) looks verb look refl h)

look-Ok : (verb document : List ℕ) (a : Data) → OkWrites verb document (a ∷ []) (look_from verb a)
look-Ok verb document a asked h =
    let look = found_step (look_of verb) BadRequest _ asked h in
    let expr = found_step (expr_from a) BadRequest _ asked look.2 in
    let same : asked ≡ ask.Look expr.0 look.0 = cc in
    let made = expr_from-Some a expr.0 expr.1 in
    writes_one verb _ document a _ asked _ (look_of-Some verb look.0 look.1) made.0 same refl made.1

short_request-Ok : (verb document : List ℕ) (a : Data) → OkWrites verb document (a ∷ []) (short_request verb a)
short_request-Ok verb document a =
    by_word (OkWrites verb document (a ∷ [])) verb (codes "delete") _ _ (deletion-Ok verb document a)
    (by_word (OkWrites verb document (a ∷ [])) verb (codes "deliver") _ _ (delivery-Ok verb document a)
    (by_word (OkWrites verb document (a ∷ [])) verb (codes "forget") _ _ (forgetting-Ok verb document a)
    (by_word (OkWrites verb document (a ∷ [])) verb (codes "copied") _ _ (copied-Ok verb document a) (look-Ok verb document a))))

naming-Ok : (verb document : List ℕ) (a b : Data) → verb ≡ codes "let" → OkWrites verb document (a ∷ b ∷ []) (naming_from a b)
naming-Ok verb document a b is asked h =
    let name = found_step (variable_from a) BadRequest _ asked h in
    let expr = found_step (expr_from b) BadRequest _ asked name.2 in
    let same : asked ≡ ask.Let name.0 expr.0 = cc in
    let named = variable_from-Some a name.0 name.1 in
    let made = expr_from-Some b expr.0 expr.1 in
    writes_two verb _ document a b _ _ asked _ is named.0 made.0 same refl (both_hold _ _ named.1 made.1)

pub limit_from-Some : (d : Data) (limit : ℕ) → limit_from d ≡ Some limit → (number (unsigned limit) ≡ d) × ((nat_le 1 limit && nat_le limit 64) ≡ true)
limit_from-Some null limit h = cc
limit_from-Some (boolean b) limit h = cc
limit_from-Some (number m) limit h =
    let n = some_step (as_u64 m) limit_of limit h in
    let made = some_if-Some _ n.0 limit n.2 in
    (ap (λ k. number (unsigned k)) (sym made.1) ∙ ap number (sym (as_u64-Some m n.0 n.1)), ap (λ k. nat_le 1 k && nat_le k 64) (sym made.1) ∙ made.0)
limit_from-Some (string s) limit h = cc
limit_from-Some (array ds) limit h = cc
limit_from-Some (object ms) limit h = cc

ops-Ok : (verb document : List ℕ) (a b : Data) → verb ≡ codes "ops" → OkWrites verb document (a ∷ b ∷ []) (ops_from a b)
ops-Ok verb document a b is asked h =
    let limit = found_step (limit_from b) BadRequest _ asked h in
    let front = ok_step (and_then (ok_or (front_of_json a) BadRequest) in_order) _ asked limit.2 in
    let entries = found_step (front_of_json a) BadRequest in_order front.0 front.1 in
    let order = if_Ok (is_ascending entries.0) BadFront entries.0 front.0 entries.2 in
    let same : asked ≡ ask.Operations front.0 limit.0 = cc in
    let read = ReadsFront-from_answer a (Ok entries.0) (λ _. sym (ap (λ o. ok_or o BadOperation) entries.1)) in
    let bound = limit_from-Some b limit.0 limit.1 in
    let within = both_hold _ _ (both_hold _ _ read.1 order.0) bound.1 in
    writes_two verb _ document a b _ _ asked (ask.Operations entries.0 limit.0) is read.0 bound.0 (same ∙ ap (λ f. ask.Operations f limit.0) (sym order.1)) refl within

chains-Ok : (verb document : List ℕ) (a b : Data) → verb ≡ codes "chains" → OkWrites verb document (a ∷ b ∷ []) (chains_from a b)
chains-Ok verb document a b is asked h =
    let fronts = ok_step (fronts_from a b) _ asked h in
    let first = found_step (front_of_json a) BadRequest _ fronts.0 fronts.1 in
    let second = found_step (front_of_json b) BadRequest _ fronts.0 first.2 in
    let order = if_Ok (is_ascending first.0 && is_ascending second.0) BadFront (first.0, second.0) fronts.0 second.2 in
    let same : asked ≡ ask.Chains (fronts.0).0 (fronts.0).1 = cc in
    let read_first = ReadsFront-from_answer a (Ok first.0) (λ _. sym (ap (λ o. ok_or o BadOperation) first.1)) in
    let read_second = ReadsFront-from_answer b (Ok second.0) (λ _. sym (ap (λ o. ok_or o BadOperation) second.1)) in
    let within = both_hold _ _ (both_hold _ _ read_first.1 read_second.1) order.0 in
    writes_two verb _ document a b _ _ asked (ask.Chains first.0 second.0) is read_first.0 read_second.0 (same ∙ ap (λ (f : List (List ℕ × ℕ) × List (List ℕ × ℕ)). ask.Chains f.0 f.1) (sym order.1)) refl within

-- a change is written with this word and this value, and is within the limits
abbrev pub OkPuts : List ℕ → Data → Result Mutation Refusal → Type 0
OkPuts verb b r = (m : Mutation) → r ≡ Ok m → (document : List ℕ) (expr : Data)
    → (change_data document expr m ≡ asks verb document (expr ∷ b ∷ [])) × (is_change m ≡ true)

assignment-Ok : (verb : List ℕ) (b : Data) → verb ≡ codes "assign" → OkPuts verb b (and_then (val_of b) (λ val. Ok (Assign val)))
assignment-Ok verb b is m h document expr =
    let val = ok_step (val_of b) _ m h in
    let same : m ≡ Assign val.0 = cc in (
      ap (change_data document expr) same ∙ (λ i. asks (sym is i) document (expr ∷ val_of-Ok b val.0 val.1 i ∷ [])),
      ap is_change same ∙ val_of-within b val.0 val.1,
    )

insertion-Ok : (verb : List ℕ) (b : Data) → verb ≡ codes "insert" → OkPuts verb b (and_then (val_of b) (λ val. Ok (Insert val)))
insertion-Ok verb b is m h document expr =
    let val = ok_step (val_of b) _ m h in
    let same : m ≡ Insert val.0 = cc in (
      ap (change_data document expr) same ∙ (λ i. asks (sym is i) document (expr ∷ val_of-Ok b val.0 val.1 i ∷ [])),
      ap is_change same ∙ val_of-within b val.0 val.1,
    )

addition-Ok : (verb : List ℕ) (b : Data) → verb ≡ codes "add" → OkPuts verb b (addition_of b)
addition-Ok verb b is m h document expr =
    let n = found_step (amount_of b) BadValue _ m h in
    let same : m ≡ Add n.0 = cc in
    let val = amount_of-val b n.0 n.1 in (
      ap (change_data document expr) same ∙ (λ i. asks (sym is i) document (expr ∷ val_of-Ok b _ val i ∷ [])),
      ap is_change same ∙ val_of-within b _ val,
    )

nothing_put : (verb : List ℕ) (b : Data) → OkPuts verb b (Err BadRequest)
nothing_put verb b m h document expr = cc

pub mutation_of_verb-Ok : (verb : List ℕ) (b : Data) → OkPuts verb b (mutation_of_verb verb b)
mutation_of_verb-Ok verb b =
    by_word (OkPuts verb b) verb (codes "assign") _ _ (assignment-Ok verb b)
    (by_word (OkPuts verb b) verb (codes "insert") _ _ (insertion-Ok verb b)
    (by_word (OkPuts verb b) verb (codes "add") _ _ (addition-Ok verb b) (nothing_put verb b)))

change-Ok : (verb document : List ℕ) (a b : Data) → OkWrites verb document (a ∷ b ∷ []) (change_request verb a b)
change-Ok verb document a b asked h =
    let expr = found_step (expr_from a) BadRequest _ asked h in
    let change = ok_step (mutation_of_verb verb b) _ asked expr.2 in
    let same : asked ≡ ask.Change expr.0 change.0 = cc in
    let made = expr_from-Some a expr.0 expr.1 in
    let puts = mutation_of_verb-Ok verb b change.0 change.1 document (expr_data expr.0) in (
      ap (doc_request_data document) same ∙ puts.0 ∙ (λ i. asks verb document (made.0 i ∷ b ∷ [])),
      ap is_doc_request same ∙ both_hold _ _ made.1 puts.1,
    )

long_request-Ok : (verb document : List ℕ) (a b : Data) → OkWrites verb document (a ∷ b ∷ []) (long_request verb a b)
long_request-Ok verb document a b =
    by_word (OkWrites verb document (a ∷ b ∷ [])) verb (codes "let") _ _ (naming-Ok verb document a b)
    (by_word (OkWrites verb document (a ∷ b ∷ [])) verb (codes "ops") _ _ (ops-Ok verb document a b)
    (by_word (OkWrites verb document (a ∷ b ∷ [])) verb (codes "chains") _ _ (chains-Ok verb document a b) (change-Ok verb document a b)))

plain_is : (verb word document : List ℕ) (one : DocRequest) → verb ≡ word → doc_request_data document one ≡ asks word document [] → is_doc_request one ≡ true → SomeWrites verb document [] (Some one)
plain_is verb word document one is form within asked h =
    let same : asked ≡ one = cc in
    (ap (doc_request_data document) same ∙ form ∙ ap (λ w. asks w document []) (sym is), ap is_doc_request same ∙ within)

state-Some : (verb document : List ℕ) → SomeWrites verb document [] (option_map ask.State (state_of_word verb))
state-Some verb document asked h =
    let s = option_map-Some ask.State (state_of_word verb) asked h in
    let word = named-Some state_word (λ w. w) states verb s.0 refl s.1 in
    (ap (doc_request_data document) (sym s.2) ∙ ap (λ w. asks w document []) word, ap is_doc_request (sym s.2))

plain_request-Some : (verb document : List ℕ) → SomeWrites verb document [] (plain_request verb)
plain_request-Some verb document =
    by_word (SomeWrites verb document []) verb (codes "open") _ _ (λ is. plain_is verb _ document ask.Open is refl refl) (state-Some verb document)

-- ---- requests

abbrev IsOf : Data → Request → Type 0
IsOf d r = (request_data r ≡ d) × (is_request r ≡ true)

-- the word and the document's name, and what is asked
is_of : (verb document : Data) (v n : List ℕ) (ds : List Data) (asked : DocRequest) (r : Request) → as_str verb ≡ Some v → as_str document ≡ Some n
    → Writes v n ds asked → Of n asked ≡ r → IsOf (list_data (verb ∷ document ∷ ds)) r
is_of verb document v n ds asked r at_verb at_document writes same =
    (ap request_data (sym same) ∙ writes.0 ∙ (λ i. list_data (sym (as_str-Some verb v at_verb) i ∷ sym (as_str-Some document n at_document) i ∷ ds)), ap is_request (sym same) ∙ writes.1)

bare_request-Some : (verb : List ℕ) (r : Request) → bare_request verb ≡ Some r → IsOf (list_data (string verb ∷ [])) r
bare_request-Some verb r h =
    (named-Some request_data (λ w. list_data (string w ∷ [])) bare_requests verb r refl h, named-Some is_request (λ w. true) bare_requests verb r refl h)

bare_from-Ok : (verb : Data) (r : Request) → bare_from verb ≡ Ok r → IsOf (list_data (verb ∷ [])) r
bare_from-Ok verb r h =
    let v = found_step (as_str verb) BadRequest _ r h in
    let made = bare_request-Some v.0 r (ok_or-Ok _ BadRequest r v.2) in
    (made.0 ∙ ap (λ w. list_data (w ∷ [])) (sym (as_str-Some verb v.0 v.1)), made.1)

abbrev items_list : Items → List Data
items_list no_items = []
items_list (item d ds) = d ∷ items_list ds

doc_request_items-Ok : (verb document : List ℕ) (ds : Items) → OkWrites verb document (items_list ds) (doc_request_items verb ds)
doc_request_items-Ok verb document no_items asked h = plain_request-Some verb document asked (ok_or-Ok _ BadRequest asked h)
doc_request_items-Ok verb document (item a no_items) asked h = short_request-Ok verb document a asked h
doc_request_items-Ok verb document (item a (item b no_items)) asked h = long_request-Ok verb document a b asked h
doc_request_items-Ok verb document (item a (item b (item c ds))) asked h = cc

items_of_list : (ds : Items) → items_of (items_list ds) ≡ ds
items_of_list no_items = refl
items_of_list (item d ds) = ap (item d) (items_of_list ds)

named_from-Ok : (verb document : Data) (ds : Items) (r : Request) → named_from verb document ds ≡ Ok r → IsOf (array (item verb (item document ds))) r
named_from-Ok verb document ds r h =
    let v = found_step (as_str verb) BadRequest _ r h in
    let n = found_step (as_str document) BadRequest _ r v.2 in
    let asked = ok_step (doc_request_items v.0 ds) _ r n.2 in
    let made = is_of verb document v.0 n.0 (items_list ds) asked.0 r v.1 n.1 (doc_request_items-Ok v.0 n.0 ds asked.0 asked.1) cc in
    (made.0 ∙ ap (λ (l : Items). array (item verb (item document l))) (items_of_list ds), made.1)

request_items-Ok : (ds : Items) (r : Request) → request_items ds ≡ Ok r → IsOf (array ds) r
request_items-Ok no_items r h = cc
request_items-Ok (item verb no_items) r h = bare_from-Ok verb r h
request_items-Ok (item verb (item document ds)) r h = named_from-Ok verb document ds r h

pub request_from-Ok : (d : Data) (r : Request) → request_from d ≡ Ok r → IsOf d r
request_from-Ok d r h =
    let items = found_step (as_array d) BadRequest request_items r h in
    let made = request_items-Ok items.0 r items.2 in
    (made.0 ∙ sym (as_array-Some d items.0 items.1), made.1)

-- a request that is read has the JSON of the line
pub reads_line : (line : List ℕ) (answer : Result Request Refusal) → UnlessMemory answer (request_of line)
    → IfOk answer (λ r. (line_data line ≡ Some (request_data r)) × IsTrue (is_request r))
reads_line line (Ok r) h =
    let d = found_step (line_data line) NotJson request_from r (sym (h (λ e. cc))) in
    let made = request_from-Ok d.0 r d.2 in
    (d.1 ∙ ap Some (sym made.0), made.1)
reads_line line (Err e) h = tt
