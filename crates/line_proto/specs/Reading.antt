-- How requests are read from JSON: the request that has this JSON, or the first cause against it.
use Rattle.std.specs.Prelude.{ℕ, ℤ, zero, suc, ◌&&◌, nat_le, List, [], ◌∷◌, codes, length, Option}
use Rattle.std.specs.Prelude.{Some, None}
use Rattle.std.specs.Prelude.{option_map, Result, Ok, Err, ok_or, if◌then◌else◌}
use Rattle.std.specs.Str.{bytes_eq, is_utf8}
use Rattle.serde_json.specs.Data.{Data, null, boolean, number, string, array, object, Items}
use Rattle.serde_json.specs.Data.{no_items, item}
use Rattle.serde_json.specs.Find.{as_u64, as_number, as_str, as_array}
use Rattle.serde_json.specs.Read.{read}
use Rattle.json_scalar.specs.Refusal.{and_then}
use Rattle.json_scalar.specs.Scalar.{val_of, int_of}
use Rattle.doc_api.specs.Words.{Refusal, Mutation, Assign, Insert, Delete, Add}
use Rattle.json_scalar.specs.declared.refusal.Refusal.TheVariants.{NotJson, BadRequest, BadValue}
use Rattle.json_scalar.specs.declared.refusal.Refusal.TheVariants.{BadFront}
use Rattle.version_vector.specs.Front.{is_ascending}
use Rattle.op_core.specs.Reading.{◌>>=◌, some_if, u64_of, id_from, front_of_json, op_from}
use Rattle.doc_api.specs.declared.place.Step.{Step}
use Rattle.doc_api.specs.declared.place.Step.TheVariants.{Get, Index}
use Rattle.doc_api.specs.declared.ask.Look.{Look}
use Rattle.doc_api.specs.declared.ask.Look.TheVariants as look
use Rattle.doc_api.specs.declared.ask.State.{State}
use Rattle.doc_api.specs.declared.ask.State.TheVariants as state
use Rattle.line_proto.specs.declared.request.Start.{Start}
use Rattle.line_proto.specs.declared.request.Start.TheVariants.{Document, Variable}
use Rattle.line_proto.specs.declared.request.CursorExpr.{CursorExpr}
use Rattle.line_proto.specs.declared.request.DocRequest.{DocRequest}
use Rattle.line_proto.specs.declared.request.DocRequest.TheVariants as ask
use Rattle.line_proto.specs.declared.request.Request.{Request}
use Rattle.line_proto.specs.declared.request.Request.TheVariants.{Quit, Version, Of}
use Rattle.line_proto.specs.Limits.{longest_variable}
use Rattle.line_proto.specs.Limits.{greatest_limit}

-- ---- cursor expressions

abbrev pub step_from : Data → Option Step
step_from null = None
step_from (boolean b) = None
step_from (number n) = option_map Index (as_u64 n)
step_from (string s) = Some (Get s)
step_from (array ds) = None
step_from (object ms) = None

abbrev pub steps_from : Items → Option (List Step)
steps_from no_items = Some []
steps_from (item d ds) = do
  first ← step_from d
  rest ← steps_from ds
  Some (first ∷ rest)

-- the name of a variable has at most 128 bytes
abbrev pub variable_of : List ℕ → Option (List ℕ)
variable_of s = some_if (nat_le (length s) longest_variable) s

abbrev pub variable_from : Data → Option (List ℕ)
variable_from d = as_str d >>= variable_of

abbrev pub start_of_number : Option ℕ → Option Start
start_of_number None = None
start_of_number (Some zero) = Some Document
start_of_number (Some (suc n)) = None

abbrev pub start_from : Data → Option Start
start_from null = None
start_from (boolean b) = None
start_from (number n) = start_of_number (as_u64 n)
start_from (string s) = option_map Variable (variable_of s)
start_from (array ds) = None
start_from (object ms) = None

abbrev pub expr_items : Items → Option CursorExpr
expr_items no_items = None
expr_items (item d ds) = do
  start ← start_from d
  steps ← steps_from ds
  Some (record { start = start; steps = steps })

abbrev pub expr_from : Data → Option CursorExpr
expr_from d = as_array d >>= expr_items

-- ---- requests, by how many items they have

-- what the word names in this table
abbrev pub named : {X : Type 0} → List ℕ → List (List ℕ × X) → Option X
named verb [] = None
named verb (e ∷ table) = if bytes_eq verb e.0 then Some e.1 else named verb table

abbrev pub bare_requests : List (List ℕ × Request)
bare_requests = (codes "quit", Quit) ∷ (codes "version", Version) ∷ []

abbrev pub bare_request : List ℕ → Option Request
bare_request verb = named verb bare_requests

abbrev pub states : List (List ℕ × State)
states = (codes "front", state.Front) ∷ (codes "held", state.Held)
    ∷ (codes "account", state.Account) ∷ (codes "size", state.Size) ∷ []

abbrev pub state_of_word : List ℕ → Option State
state_of_word verb = named verb states

abbrev pub plain_request : List ℕ → Option DocRequest
plain_request verb =
    if bytes_eq verb (codes "open") then Some ask.Open else option_map ask.State (state_of_word verb)

abbrev pub looks : List (List ℕ × Look)
looks = (codes "keys", look.Keys) ∷ (codes "values", look.Values) ∷ (codes "items", look.Items)
    ∷ (codes "conflicts", look.Conflicts) ∷ (codes "show", look.Show) ∷ (codes "sum", look.Sum) ∷ []

abbrev pub look_of : List ℕ → Option Look
look_of verb = named verb looks

abbrev pub look_from : List ℕ → Data → Result DocRequest Refusal
look_from verb d =
    and_then (ok_or (look_of verb) BadRequest) (λ look.
    and_then (ok_or (expr_from d) BadRequest) (λ expr. Ok (ask.Look expr look)))

abbrev pub deletion_request : Data → Result DocRequest Refusal
deletion_request d = and_then (ok_or (expr_from d) BadRequest) (λ expr. Ok (ask.Change expr Delete))

abbrev pub delivery_from : Data → Result DocRequest Refusal
delivery_from d = and_then (op_from d) (λ op. Ok (ask.Deliver op))

abbrev pub forgetting_from : Data → Result DocRequest Refusal
forgetting_from d = ok_or (option_map ask.Forget (id_from d)) BadRequest

abbrev pub copied_from : Data → Result DocRequest Refusal
copied_from d = ok_or (option_map ask.IsCopied (id_from d)) BadRequest

abbrev pub short_request : List ℕ → Data → Result DocRequest Refusal
short_request verb d =
    if bytes_eq verb (codes "delete") then deletion_request d
    else (if bytes_eq verb (codes "deliver") then delivery_from d
    else (if bytes_eq verb (codes "forget") then forgetting_from d
    else (if bytes_eq verb (codes "copied") then copied_from d
    else look_from verb d)))

abbrev pub naming_from : Data → Data → Result DocRequest Refusal
naming_from n d =
    and_then (ok_or (variable_from n) BadRequest) (λ name.
    and_then (ok_or (expr_from d) BadRequest) (λ expr. Ok (ask.Let name expr)))

-- 1 to 64
abbrev pub limit_of : ℕ → Option ℕ
limit_of n = some_if (nat_le 1 n && nat_le n greatest_limit) n

abbrev pub limit_from : Data → Option ℕ
limit_from d = u64_of d >>= limit_of

-- a front that ascends
abbrev pub in_order : List (List ℕ × ℕ) → Result (List (List ℕ × ℕ)) Refusal
in_order front = if is_ascending front then Ok front else Err BadFront

abbrev pub ascending_from : Data → Result (List (List ℕ × ℕ)) Refusal
ascending_from f = and_then (ok_or (front_of_json f) BadRequest) in_order

abbrev pub ops_from : Data → Data → Result DocRequest Refusal
ops_from f n =
    and_then (ok_or (limit_from n) BadRequest) (λ limit.
    and_then (ascending_from f) (λ front. Ok (ask.Operations front limit)))

-- two fronts that ascend
abbrev pub both_in_order : List (List ℕ × ℕ) → List (List ℕ × ℕ)
    → Result (List (List ℕ × ℕ) × List (List ℕ × ℕ)) Refusal
both_in_order first second =
    if is_ascending first && is_ascending second then Ok (first, second) else Err BadFront

abbrev pub fronts_from : Data → Data → Result (List (List ℕ × ℕ) × List (List ℕ × ℕ)) Refusal
fronts_from a b =
    and_then (ok_or (front_of_json a) BadRequest) (λ first.
    and_then (ok_or (front_of_json b) BadRequest) (λ second. both_in_order first second))

abbrev pub chains_from : Data → Data → Result DocRequest Refusal
chains_from a b = and_then (fronts_from a b) (λ fronts. Ok (ask.Chains fronts.0 fronts.1))

-- an integer of 64 bits
abbrev pub amount_of : Data → Option ℤ
amount_of d = as_number d >>= int_of

abbrev pub addition_of : Data → Result Mutation Refusal
addition_of d = and_then (ok_or (amount_of d) BadValue) (λ n. Ok (Add n))

abbrev pub mutation_of_verb : List ℕ → Data → Result Mutation Refusal
mutation_of_verb verb d =
    if bytes_eq verb (codes "assign") then and_then (val_of d) (λ val. Ok (Assign val))
    else (if bytes_eq verb (codes "insert") then and_then (val_of d) (λ val. Ok (Insert val))
    else (if bytes_eq verb (codes "add") then addition_of d
    else Err BadRequest))

-- a change is its cursor, and then what is changed
abbrev pub change_request : List ℕ → Data → Data → Result DocRequest Refusal
change_request verb c d =
    and_then (ok_or (expr_from c) BadRequest) (λ expr.
    and_then (mutation_of_verb verb d) (λ change. Ok (ask.Change expr change)))

abbrev pub long_request : List ℕ → Data → Data → Result DocRequest Refusal
long_request verb a b =
    if bytes_eq verb (codes "let") then naming_from a b
    else (if bytes_eq verb (codes "ops") then ops_from a b
    else (if bytes_eq verb (codes "chains") then chains_from a b
    else change_request verb a b))

-- a request on a document, by its word and the items after the document's name
abbrev pub doc_request_items : List ℕ → Items → Result DocRequest Refusal
doc_request_items verb no_items = ok_or (plain_request verb) BadRequest
doc_request_items verb (item a no_items) = short_request verb a
doc_request_items verb (item a (item b no_items)) = long_request verb a b
doc_request_items verb (item a (item b (item c ds))) = Err BadRequest

abbrev pub bare_from : Data → Result Request Refusal
bare_from verb = and_then (ok_or (as_str verb) BadRequest)
    (λ verb. ok_or (bare_request verb) BadRequest)

-- a request on a document, with the items after the document's name
abbrev pub named_from : Data → Data → Items → Result Request Refusal
named_from verb document ds =
    and_then (ok_or (as_str verb) BadRequest) (λ verb.
    and_then (ok_or (as_str document) BadRequest) (λ name.
    and_then (doc_request_items verb ds) (λ asked. Ok (Of name asked))))

abbrev pub request_items : Items → Result Request Refusal
request_items no_items = Err BadRequest
request_items (item verb no_items) = bare_from verb
request_items (item verb (item document ds)) = named_from verb document ds

abbrev pub request_from : Data → Result Request Refusal
request_from d = and_then (ok_or (as_array d) BadRequest) request_items

-- ---- lines

-- the JSON that these bytes are
abbrev pub line_data : List ℕ → Option Data
line_data line = if is_utf8 line then read line else None

-- the request that these bytes are, or the first cause against them
abbrev pub request_of : List ℕ → Result Request Refusal
request_of line = and_then (ok_or (line_data line) NotJson) request_from
