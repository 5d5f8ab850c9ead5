-- Which refusal is answered for JSON that is no request.
use Rattle.std.proofs.Common.{◌≡◌, ◌≢◌, ◌&&◌, inl, inr, ℕ, Bool, true, false, cond, List, [], ◌∷◌, codes, Option, Some, None, Result, Ok, Err, ok_or, IfErr, refl, sym, ap, ◌∙◌, subst}
use Rattle.std.specs.Prelude.{⊤}
use Rattle.serde_json.specs.Data.{Data, string, array, Items, no_items, item}
use Rattle.serde_json.specs.Find.{as_str, as_array}
use Rattle.doc_api.specs.Words.{UnlessMemory, Refusal, NoMemory, Mutation, Assign, Insert, Delete, Add}
use Rattle.json_scalar.specs.Refusal.{and_then}
use Rattle.json_scalar.specs.Scalar.{val_of}
use Rattle.json_scalar.specs.declared.refusal.Refusal.TheVariants.{NotJson, BadRequest, BadValue, BadOperation, BadFront, TooDeep}
use Rattle.json_scalar.proofs.Readings.{val_of-Err}
use Rattle.version_vector.specs.Front.{is_ascending}
use Rattle.op_core.specs.Op.{Op}
use Rattle.op_core.specs.Reading.{Parts, front_of_json, is_long, op_from, op_from_parts, op_of, parts_of, path_len, shaped}
use Rattle.op_core.specs.Shape.{first_cause, has_form, has_front, is_shallow}
use Rattle.op_core.specs.Written.{ReadsOp}
use Rattle.op_core.proofs.Wires.{as_array-Some, as_str-Some, front_of_json-front_data, ReadsFront-from_answer}
use Rattle.op_core.proofs.Operations.{ReadsOp-from_answer}
use Rattle.line_proto.specs.Reading.{variable_from, expr_from, bare_request, plain_request, look_of, look_from, deletion_request, delivery_from, short_request, naming_from, limit_from, in_order, ops_from, both_in_order, fronts_from, chains_from, amount_of, mutation_of_verb, change_request, long_request, doc_request_items, request_items, request_from, line_data, request_of}
use Rattle.line_proto.specs.Written.{asks, expr_data, is_start}
use Rattle.line_proto.specs.Refused.{Putting, assigns, inserts, adds, putting_word, AsksToPut, AsksToDeliver, AsksForOperations, AsksForChains, IsNoRequest, IsRefusedFor, IsLineRefusedFor}
use Rattle.line_proto.specs.declared.request.CursorExpr.{CursorExpr}
use Rattle.line_proto.specs.declared.request.DocRequest.TheVariants as ask
use Rattle.line_proto.specs.declared.request.Request.{Request}
use Rattle.line_proto.specs.declared.request.Request.TheVariants.{Of}
use Rattle.line_proto.proofs.Found.{by_word, expr_from-Some, limit_from-Some}
use Rattle.line_proto.proofs.Requests.{expr_from-expr_data, request_from-request_data}

-- ---- where a form is found: what of it is refused

-- what is true of JSON that is refused for this cause, but for one of its form
abbrev CauseOf : Data → Refusal → Type 0
CauseOf d BadRequest = ⊤
CauseOf d BadValue = AsksToPut d
CauseOf d NoMemory = ⊥
CauseOf d e = IsRefusedFor d e

-- each refusal in the result is caused by the JSON
abbrev IsCaused : {A : Type 0} → Data → Result A Refusal → Type 0
IsCaused d r = (e : Refusal) → r ≡ Err e → CauseOf d e

read : {A : Type 0} (d : Data) (x : A) → IsCaused d (Ok x)
read d x e is = cc

unformed : {A : Type 0} (d : Data) → IsCaused {A = A} d (Err BadRequest)
unformed d e is = let same : BadRequest ≡ e = cc in subst (CauseOf d) same tt

ok_or-caused : {A : Type 0} (d : Data) (o : Option A) → IsCaused d (ok_or o BadRequest)
ok_or-caused d (Some x) = read d x
ok_or-caused d None = unformed d

step : {A B : Type 0} (d : Data) (o : Option A) (f : A → Result B Refusal) → ((x : A) → o ≡ Some x → IsCaused d (f x)) → IsCaused d (and_then (ok_or o BadRequest) f)
step d (Some x) f h = h x refl
step d None f h = unformed d

made_of : {A B : Type 0} (d : Data) (r : Result A Refusal) (f : A → B) → IsCaused d r → IsCaused d (and_then r (λ x. Ok (f x)))
made_of d (Ok x) f h e is = cc
made_of d (Err c) f h e is = let same : c ≡ e = cc in h e (ap Err same)

-- ---- what is put

only_BadValue : {A : Type 0} (o : Option A) (e : Refusal) → ok_or o BadValue ≡ Err e → e ≡ BadValue
only_BadValue (Some x) e is = cc
only_BadValue None e is = cc

put-caused : {A B : Type 0} (d : Data) (r : Result A Refusal) (f : A → B) → AsksToPut d → ((e : Refusal) → r ≡ Err e → e ≡ BadValue) → IsCaused d (and_then r (λ x. Ok (f x)))
put-caused d (Ok x) f put only e is = cc
put-caused d (Err c) f put only e is =
    let same : c ≡ e = cc in
    subst (CauseOf d) (sym (only c refl) ∙ same) put

asks_to_put : (one : Putting) (verb document : List ℕ) (a b : Data) (expr : CursorExpr) → verb ≡ putting_word one → expr_from a ≡ Some expr
    → AsksToPut (asks verb document (a ∷ b ∷ []))
asks_to_put one verb document a b expr is found =
    let made = expr_from-Some a expr found in
    let at_a = made.0 in
    record {
      putting = one;
      document = document;
      expr = expr;
      value = b;
      started = made.1;
      form = λ i. asks (sym is i) document (at_a i ∷ b ∷ []);
    }

mutation-caused : (verb document : List ℕ) (a b : Data) (expr : CursorExpr) → expr_from a ≡ Some expr
    → IsCaused (asks verb document (a ∷ b ∷ [])) (and_then (mutation_of_verb verb b) (λ change. Ok (ask.Change expr change)))
mutation-caused verb document a b expr found =
    let d = asks verb document (a ∷ b ∷ []) in
    made_of d (mutation_of_verb verb b) (ask.Change expr)
    (by_word (IsCaused d) verb (codes "assign") _ _ (λ is. put-caused d (val_of b) Assign (asks_to_put assigns verb document a b expr is found) (val_of-Err b))
    (by_word (IsCaused d) verb (codes "insert") _ _ (λ is. put-caused d (val_of b) Insert (asks_to_put inserts verb document a b expr is found) (val_of-Err b))
    (by_word (IsCaused d) verb (codes "add") _ _ (λ is. put-caused d (ok_or (amount_of b) BadValue) Add (asks_to_put adds verb document a b expr is found) (only_BadValue (amount_of b)))
    (unformed d))))

change-caused : (verb document : List ℕ) (a b : Data) → IsCaused (asks verb document (a ∷ b ∷ [])) (change_request verb a b)
change-caused verb document a b = step (asks verb document (a ∷ b ∷ [])) (expr_from a) _ (mutation-caused verb document a b)

-- ---- what is delivered

-- by its definition, reading never lacks memory
shaped-never_memory : (op : Op) (shallow form front : Bool) → and_then (first_cause shallow form front) (λ _. Ok op) ≢ Err NoMemory
shaped-never_memory op false form front is = cc
shaped-never_memory op true false front is = cc
shaped-never_memory op true true false is = cc
shaped-never_memory op true true true is = cc

op-never_memory : (long : Bool) (o : Option Op) → cond long (Err TooDeep) (and_then (ok_or o BadOperation) shaped) ≢ Err NoMemory
op-never_memory true o is = cc
op-never_memory false None is = cc
op-never_memory false (Some op) is = shaped-never_memory op (is_shallow op.cursor.path) (has_form op) (has_front op) is

parts-never_memory : (o : Option Parts) → and_then (ok_or o BadOperation) op_from_parts ≢ Err NoMemory
parts-never_memory None is = cc
parts-never_memory (Some parts) is = op-never_memory (is_long (path_len parts.cursor)) (op_of parts) is

pub op_from-never_memory : (op : Data) → op_from op ≢ Err NoMemory
op_from-never_memory op = parts-never_memory (parts_of op)

op-cause : (d op : Data) → AsksToDeliver d op → (e : Refusal) → op_from op ≡ Err e → ReadsOp op (Err e) → CauseOf d e
op-cause d op delivers TooDeep refused h = (op, delivers, h)
op-cause d op delivers BadOperation refused h = (op, delivers, h)
op-cause d op delivers BadFront refused h = inl (op, delivers, h)
op-cause d op delivers NoMemory refused h = op_from-never_memory op refused
op-cause d op delivers e refused h = absurd h

delivery-caused : (verb document : List ℕ) (a : Data) → verb ≡ codes "deliver" → IsCaused (asks verb document (a ∷ [])) (delivery_from a)
delivery-caused verb document a is =
    let d = asks verb document (a ∷ []) in
    let delivers : AsksToDeliver d a = record { document = document; form = λ i. asks (sym is i) document (a ∷ []) } in
    made_of d (op_from a) ask.Deliver (λ e refused. op-cause d a delivers e refused (ReadsOp-from_answer a (Err e) (λ _. sym refused)))

-- ---- the front

in_order-caused : (d : Data) (front : List (List ℕ × ℕ)) → AsksForOperations d front → IsCaused d (in_order front)
in_order-caused d front pulls = by (is_ascending front) refl
  where
    by : (b : Bool) → is_ascending front ≡ b → IsCaused d (cond b (Ok front) (Err BadFront))
    by true p e is = cc
    by false p e is = let same : BadFront ≡ e = cc in subst (CauseOf d) same (inr (inl (front, pulls, p)))

asks_for_operations : (verb document : List ℕ) (a b : Data) (front : List (List ℕ × ℕ)) (limit : ℕ) → verb ≡ codes "ops" → front_of_json a ≡ Some front → limit_from b ≡ Some limit
    → AsksForOperations (asks verb document (a ∷ b ∷ [])) front
asks_for_operations verb document a b front limit is found bound =
    let made = ReadsFront-from_answer a (Ok front) (λ _. sym (ap (λ o. ok_or o BadOperation) found)) in
    let within = limit_from-Some b limit bound in
    let at_a = made.0 in
    let at_b = within.0 in
    record {
      document = document;
      limit = limit;
      entries = made.1;
      limited = within.1;
      form = λ i. asks (sym is i) document (at_a i ∷ at_b i ∷ []);
    }

ops-caused : (verb document : List ℕ) (a b : Data) → verb ≡ codes "ops" → IsCaused (asks verb document (a ∷ b ∷ [])) (ops_from a b)
ops-caused verb document a b is =
    let d = asks verb document (a ∷ b ∷ []) in
    step d (limit_from b) _ (λ limit bound.
    made_of d (and_then (ok_or (front_of_json a) BadRequest) in_order) (λ front. ask.Operations front limit)
    (step d (front_of_json a) in_order (λ front found. in_order-caused d front (asks_for_operations verb document a b front limit is found bound))))

-- ---- the two fronts of chains

both_in_order-caused : (d : Data) (after front : List (List ℕ × ℕ)) → AsksForChains d after front → IsCaused d (both_in_order after front)
both_in_order-caused d after front compares = by (is_ascending after && is_ascending front) refl
  where
    by : (b : Bool) → (is_ascending after && is_ascending front) ≡ b → IsCaused {A = List (List ℕ × ℕ) × List (List ℕ × ℕ)} d (cond b (Ok (after, front)) (Err BadFront))
    by true p e is = cc
    by false p e is = let same : BadFront ≡ e = cc in subst (CauseOf d) same (inr (inr (after, front, compares, p)))

asks_for_chains : (verb document : List ℕ) (a b : Data) (after front : List (List ℕ × ℕ)) → verb ≡ codes "chains" → front_of_json a ≡ Some after → front_of_json b ≡ Some front
    → AsksForChains (asks verb document (a ∷ b ∷ [])) after front
asks_for_chains verb document a b after front is found bound =
    let first = ReadsFront-from_answer a (Ok after) (λ _. sym (ap (λ o. ok_or o BadOperation) found)) in
    let second = ReadsFront-from_answer b (Ok front) (λ _. sym (ap (λ o. ok_or o BadOperation) bound)) in
    let at_a = first.0 in
    let at_b = second.0 in
    record {
      document = document;
      after_entries = first.1;
      entries = second.1;
      form = λ i. asks (sym is i) document (at_a i ∷ at_b i ∷ []);
    }

chains-caused : (verb document : List ℕ) (a b : Data) → verb ≡ codes "chains" → IsCaused (asks verb document (a ∷ b ∷ [])) (chains_from a b)
chains-caused verb document a b is =
    let d = asks verb document (a ∷ b ∷ []) in
    made_of d (fronts_from a b) (λ fronts. ask.Chains fronts.0 fronts.1)
    (step d (front_of_json a) _ (λ after found.
    step d (front_of_json b) _ (λ front bound. both_in_order-caused d after front (asks_for_chains verb document a b after front is found bound))))

-- ---- what else is asked: only the form is refused

deletion-caused : (d a : Data) → IsCaused d (deletion_request a)
deletion-caused d a = step d (expr_from a) _ (λ expr found. read d (ask.Change expr Delete))

look-caused : (d : Data) (verb : List ℕ) (a : Data) → IsCaused d (look_from verb a)
look-caused d verb a = step d (look_of verb) _ (λ look is. step d (expr_from a) _ (λ expr found. read d (ask.Look expr look)))

naming-caused : (d a b : Data) → IsCaused d (naming_from a b)
naming-caused d a b = step d (variable_from a) _ (λ name is. step d (expr_from b) _ (λ expr found. read d (ask.Let name expr)))

short_request-caused : (verb document : List ℕ) (a : Data) → IsCaused (asks verb document (a ∷ [])) (short_request verb a)
short_request-caused verb document a =
    let d = asks verb document (a ∷ []) in
    by_word (IsCaused d) verb (codes "delete") _ _ (λ is. deletion-caused d a)
    (by_word (IsCaused d) verb (codes "deliver") _ _ (delivery-caused verb document a)
    (by_word (IsCaused d) verb (codes "forget") _ _ (λ is. ok_or-caused d _)
    (by_word (IsCaused d) verb (codes "copied") _ _ (λ is. ok_or-caused d _) (look-caused d verb a))))

long_request-caused : (verb document : List ℕ) (a b : Data) → IsCaused (asks verb document (a ∷ b ∷ [])) (long_request verb a b)
long_request-caused verb document a b =
    let d = asks verb document (a ∷ b ∷ []) in
    by_word (IsCaused d) verb (codes "let") _ _ (λ is. naming-caused d a b)
    (by_word (IsCaused d) verb (codes "ops") _ _ (ops-caused verb document a b)
    (by_word (IsCaused d) verb (codes "chains") _ _ (chains-caused verb document a b) (change-caused verb document a b)))

-- ---- requests

doc_request_items-caused : (verb document : List ℕ) (ds : Items) → IsCaused (array (item (string verb) (item (string document) ds))) (doc_request_items verb ds)
doc_request_items-caused verb document no_items = ok_or-caused (asks verb document []) (plain_request verb)
doc_request_items-caused verb document (item a no_items) = short_request-caused verb document a
doc_request_items-caused verb document (item a (item b no_items)) = long_request-caused verb document a b
doc_request_items-caused verb document (item a (item b (item c ds))) = unformed (array (item (string verb) (item (string document) (item a (item b (item c ds))))))

request_items-caused : (ds : Items) → IsCaused (array ds) (request_items ds)
request_items-caused no_items = unformed (array no_items)
request_items-caused (item verb no_items) =
    let d = array (item verb no_items) in
    step d (as_str verb) _ (λ v is. ok_or-caused d (bare_request v))
request_items-caused (item verb (item document ds)) =
    let d = array (item verb (item document ds)) in
    step d (as_str verb) _ (λ v is. step d (as_str document) _ (λ n named.
    made_of d (doc_request_items v ds) (λ asked. Of n asked)
    (subst (λ (d : Data). IsCaused d (doc_request_items v ds))
    (λ i. array (item (sym (as_str-Some verb v is) i) (item (sym (as_str-Some document n named) i) ds)))
    (doc_request_items-caused v n ds))))

pub request_from-caused : (d : Data) → IsCaused d (request_from d)
request_from-caused d = step d (as_array d) request_items (λ items found. subst (λ (d : Data). IsCaused d (request_items items)) (sym (as_array-Some d items found)) (request_items-caused items))

-- ---- where the form is refused: there is none

no_request : (d : Data) (e : Refusal) → request_from d ≡ Err e → IsNoRequest d
no_request d e is r within same =
    let both : Ok r ≡ Err e = sym (request_from-request_data r within) ∙ ap request_from same ∙ is in
    cc

-- what is put is refused for its value alone
value_only : {A : Type 0} (document : List ℕ) (expr : CursorExpr) (r : Result A Refusal) (f : A → Mutation) → ((e : Refusal) → r ≡ Err e → e ≡ BadValue)
    → (c : Refusal) → and_then (and_then (and_then r (λ x. Ok (f x))) (λ change. Ok (ask.Change expr change))) (λ asked. Ok (Of document asked)) ≡ Err c → c ≡ BadValue
value_only document expr (Ok x) f only c is = cc
value_only document expr (Err e) f only c is = let same : e ≡ c = cc in sym same ∙ only e refl

put_only : (one : Putting) (document : List ℕ) (expr : CursorExpr) (value : Data) → is_start expr.start ≡ true
    → (c : Refusal) → request_from (asks (putting_word one) document (expr_data expr ∷ value ∷ [])) ≡ Err c → c ≡ BadValue
put_only assigns document expr value h c is =
    let answer : request_from (asks (codes "assign") document (expr_data expr ∷ value ∷ []))
    ≡ and_then (and_then (and_then (val_of value) (λ val. Ok (Assign val))) (λ change. Ok (ask.Change expr change))) (λ asked. Ok (Of document asked))
    = rw (expr_from-expr_data expr h) refl in
    value_only document expr (val_of value) Assign (val_of-Err value) c (sym answer ∙ is)
put_only inserts document expr value h c is =
    let answer : request_from (asks (codes "insert") document (expr_data expr ∷ value ∷ []))
    ≡ and_then (and_then (and_then (val_of value) (λ val. Ok (Insert val))) (λ change. Ok (ask.Change expr change))) (λ asked. Ok (Of document asked))
    = rw (expr_from-expr_data expr h) refl in
    value_only document expr (val_of value) Insert (val_of-Err value) c (sym answer ∙ is)
put_only adds document expr value h c is =
    let answer : request_from (asks (codes "add") document (expr_data expr ∷ value ∷ []))
    ≡ and_then (and_then (and_then (ok_or (amount_of value) BadValue) (λ n. Ok (Add n))) (λ change. Ok (ask.Change expr change))) (λ asked. Ok (Of document asked))
    = rw (expr_from-expr_data expr h) refl in
    value_only document expr (ok_or (amount_of value) BadValue) Add (only_BadValue (amount_of value)) c (sym answer ∙ is)

pub put-refused : (d : Data) → AsksToPut d → (c : Refusal) → request_from d ≡ Err c → c ≡ BadValue
put-refused d p c is = put_only p.putting p.document p.expr p.value p.started c (ap request_from p.form ∙ is)

-- what is delivered is refused as the operation is
pub delivered : (d op : Data) → (p : AsksToDeliver d op) → (r : Result Op Refusal) → op_from op ≡ r
    → request_from d ≡ and_then (and_then r (λ x. Ok (ask.Deliver x))) (λ asked. Ok (Of p.document asked))
delivered d op p r found =
    sym (ap request_from p.form) ∙ ap (λ (r : Result Op Refusal). and_then (and_then r (λ x. Ok (ask.Deliver x))) (λ asked. Ok (Of p.document asked))) found

delivered-formed : (d op : Data) → AsksToDeliver d op → request_from d ≢ Err BadRequest
delivered-formed d op p is = by (op_from op) refl
  where
    by : (r : Result Op Refusal) → op_from op ≡ r → ⊥
    by (Ok x) found = let same : Ok (Of p.document (ask.Deliver x)) ≡ Err BadRequest = sym (delivered d op p (Ok x) found) ∙ is in cc
    by (Err e) found =
        let same : ◌≡◌ {A = Result Request Refusal} (Err e) (Err BadRequest) = sym (delivered d op p (Err e) found) ∙ is in
        let only : e ≡ BadRequest = cc in
        ReadsOp-from_answer op (Err BadRequest) (λ _. sym (found ∙ ap Err only))

-- what asks for operations is refused for the order of the front alone
pub pulled : (d : Data) (front : List (List ℕ × ℕ)) → (p : AsksForOperations d front) → (b : Bool) → is_ascending front ≡ b
    → request_from d ≡ cond b (Ok (Of p.document (ask.Operations front p.limit))) (Err BadFront)
pulled d front p true is = sym (ap request_from p.form) ∙ rw (p.limited, front_of_json-front_data front p.entries, is) refl
pulled d front p false is = sym (ap request_from p.form) ∙ rw (p.limited, front_of_json-front_data front p.entries, is) refl

pulled-formed : (d : Data) (front : List (List ℕ × ℕ)) → AsksForOperations d front → request_from d ≢ Err BadRequest
pulled-formed d front p is = by (is_ascending front) refl
  where
    by : (b : Bool) → is_ascending front ≡ b → ⊥
    by true q = let same : Ok (Of p.document (ask.Operations front p.limit)) ≡ Err BadRequest = sym (pulled d front p true q) ∙ is in cc
    by false q = let same : ◌≡◌ {A = Result Request Refusal} (Err BadFront) (Err BadRequest) = sym (pulled d front p false q) ∙ is in cc

-- what asks for chains is refused for the order of its fronts alone
pub compared : (d : Data) (after front : List (List ℕ × ℕ)) → (p : AsksForChains d after front) → (b : Bool) → (is_ascending after && is_ascending front) ≡ b
    → request_from d ≡ cond b (Ok (Of p.document (ask.Chains after front))) (Err BadFront)
compared d after front p true is = sym (ap request_from p.form) ∙ rw (front_of_json-front_data after p.after_entries, front_of_json-front_data front p.entries, is) refl
compared d after front p false is = sym (ap request_from p.form) ∙ rw (front_of_json-front_data after p.after_entries, front_of_json-front_data front p.entries, is) refl

compared-formed : (d : Data) (after front : List (List ℕ × ℕ)) → AsksForChains d after front → request_from d ≢ Err BadRequest
compared-formed d after front p is = by (is_ascending after && is_ascending front) refl
  where
    by : (b : Bool) → (is_ascending after && is_ascending front) ≡ b → ⊥
    by true q = let same : Ok (Of p.document (ask.Chains after front)) ≡ Err BadRequest = sym (compared d after front p true q) ∙ is in cc
    by false q = let same : ◌≡◌ {A = Result Request Refusal} (Err BadFront) (Err BadRequest) = sym (compared d after front p false q) ∙ is in cc

pub is_refused_for : (d : Data) (e : Refusal) → request_from d ≡ Err e → IsRefusedFor d e
is_refused_for d BadRequest is =
    (no_request d BadRequest is, (λ p. let clash : BadRequest ≡ BadValue = put-refused d p BadRequest is in cc), (λ op p. delivered-formed d op p is), (λ front p. pulled-formed d front p is), (λ after front p. compared-formed d after front p is))
is_refused_for d BadValue is = (request_from-caused d BadValue is, no_request d BadValue is)
is_refused_for d NoMemory is = tt
is_refused_for d e is = request_from-caused d e is

-- ---- lines

is_line_refused_for : (found : Option Data) (e : Refusal) → and_then (ok_or found NotJson) request_from ≡ Err e → IsLineRefusedFor found e
is_line_refused_for None e is = let same : NotJson ≡ e = cc in subst (IsLineRefusedFor None) same tt
is_line_refused_for (Some d) e is = is_refused_for d e is

memory_may_lack : (found : Option Data) → IsLineRefusedFor found NoMemory
memory_may_lack None = tt
memory_may_lack (Some d) = tt

-- a line that is refused is refused for a cause that the rules name
pub refuses_line : (line : List ℕ) (answer : Result Request Refusal) → UnlessMemory answer (request_of line) → IfErr answer (IsLineRefusedFor (line_data line))
refuses_line line (Ok r) h = tt
refuses_line line (Err NoMemory) h = memory_may_lack (line_data line)
refuses_line line (Err e) h = is_line_refused_for (line_data line) e (sym (h (λ k. cc)))

never_memory : (found : Option Data) → and_then (ok_or found NotJson) request_from ≢ Err NoMemory
never_memory None is = cc
never_memory (Some d) is = request_from-caused d NoMemory is

-- what the definition refuses it refuses for a cause that the rules name
pub request_of-caused : (line : List ℕ) (e : Refusal) → request_of line ≡ Err e → (e ≢ NoMemory) × IsLineRefusedFor (line_data line) e
request_of-caused line e is =
    ((λ same. never_memory (line_data line) (is ∙ ap Err same)), is_line_refused_for (line_data line) e is)
