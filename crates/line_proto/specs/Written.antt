-- The written form of requests.
use Rattle.std.specs.Prelude.{ℕ, ℤ, pos, negsuc, ◌^◌, ◌&&◌, nat_le, nat_lt, Bool, true, List, []}
use Rattle.std.specs.Prelude.{◌∷◌, map, codes}
use Rattle.std.specs.Prelude.{length}
use Rattle.serde_json.specs.Data.{Data, number, unsigned, string}
use Rattle.serde_json.specs.Find.{of_integer}
use Rattle.json_scalar.specs.Scalar.{is_val, val_data}
use Rattle.doc_api.specs.Words.{Val, Mutation, Assign, Insert, Delete, Add}
use Rattle.json_scalar.specs.declared.scalar.Val.TheVariants.{Scalar}
use Rattle.json_scalar.specs.declared.scalar.Scalar.TheVariants.{Int}
use Rattle.version_vector.specs.Front.{is_ascending}
use Rattle.op_core.specs.Shape.{is_id, is_entry, is_shaped}
use Rattle.op_core.specs.Wire.{list_data, id_data, front_data, wire}
use Rattle.std.specs.List.{list_all}
use Rattle.doc_api.specs.declared.place.Step.{Step}
use Rattle.doc_api.specs.declared.place.Step.TheVariants.{Get, Index}
use Rattle.doc_api.specs.declared.ask.Look.{Look}
use Rattle.doc_api.specs.declared.ask.Look.TheVariants as look
use Rattle.doc_api.specs.declared.ask.State.{State}
use Rattle.doc_api.specs.declared.ask.State.TheVariants as state
use Rattle.line_proto.specs.declared.request.Start.{Start}
use Rattle.line_proto.specs.declared.request.Start.TheVariants.{Document, Variable}
use Rattle.line_proto.specs.declared.request.CursorExpr.{CursorExpr}
use Rattle.line_proto.specs.declared.request.DocRequest.{DocRequest}
use Rattle.line_proto.specs.declared.request.DocRequest.TheVariants as ask
use Rattle.line_proto.specs.declared.request.Request.{Request}
use Rattle.line_proto.specs.declared.request.Request.TheVariants.{Quit, Version, Of}
use Rattle.line_proto.specs.Limits.{longest_variable}
use Rattle.line_proto.specs.Limits.{greatest_limit}

abbrev pub start_data : Start → Data
start_data Document = number (unsigned 0)
start_data (Variable name) = string name

abbrev pub step_data : Step → Data
step_data (Get text) = string text
step_data (Index n) = number (unsigned n)

abbrev pub expr_data : CursorExpr → Data
expr_data expr = list_data (start_data expr.start ∷ map step_data expr.steps)

-- a request on a document: its word, the document's name, and more
abbrev pub asks : List ℕ → List ℕ → List Data → Data
asks word document ds = list_data (string word ∷ string document ∷ ds)

abbrev pub state_word : State → List ℕ
state_word state.Front = codes "front"
state_word state.Held = codes "held"
state_word state.Account = codes "account"
state_word state.Size = codes "size"

abbrev pub look_word : Look → List ℕ
look_word look.Keys = codes "keys"
look_word look.Values = codes "values"
look_word look.Items = codes "items"
look_word look.Conflicts = codes "conflicts"
look_word look.Show = codes "show"
look_word look.Sum = codes "sum"

abbrev pub change_data : List ℕ → Data → Mutation → Data
change_data document expr (Assign val) = asks (codes "assign") document (expr ∷ val_data val ∷ [])
change_data document expr (Insert val) = asks (codes "insert") document (expr ∷ val_data val ∷ [])
change_data document expr Delete = asks (codes "delete") document (expr ∷ [])
change_data document expr (Add n) = asks (codes "add") document (expr ∷ number (of_integer n) ∷ [])

abbrev pub doc_request_data : List ℕ → DocRequest → Data
doc_request_data document ask.Open = asks (codes "open") document []
doc_request_data document (ask.State s) = asks (state_word s) document []
doc_request_data document (ask.Change expr change) = change_data document (expr_data expr) change
doc_request_data document (ask.Look expr look) = asks (look_word look) document (expr_data expr ∷ [])
doc_request_data document (ask.Let name expr) = asks (codes "let") document (string name ∷ expr_data expr ∷ [])
doc_request_data document (ask.Deliver op) = asks (codes "deliver") document (wire op ∷ [])
doc_request_data document (ask.Operations front limit) =
    asks (codes "ops") document (front_data front ∷ number (unsigned limit) ∷ [])
doc_request_data document (ask.Chains after front) =
    asks (codes "chains") document (front_data after ∷ front_data front ∷ [])
doc_request_data document (ask.IsCopied id) = asks (codes "copied") document (id_data id ∷ [])
doc_request_data document (ask.Forget id) = asks (codes "forget") document (id_data id ∷ [])

-- a request's JSON
abbrev pub request_data : Request → Data
request_data Quit = list_data (string (codes "quit") ∷ [])
request_data Version = list_data (string (codes "version") ∷ [])
request_data (Of document ask) = doc_request_data document ask

-- ---- within the limits

-- the name of a variable has at most 128 bytes
abbrev pub is_variable : List ℕ → Bool
is_variable name = nat_le (length name) longest_variable

abbrev pub is_start : Start → Bool
is_start Document = true
is_start (Variable name) = is_variable name

-- An integer of at most 63 bits and a sign. That none is less than the least is kept by its type.
abbrev pub is_amount : ℤ → Bool
is_amount (pos n) = nat_lt n (2 ^ 63)
is_amount (negsuc n) = true

abbrev pub is_put : Val → Bool
is_put (Scalar (Int n)) = is_amount n
is_put val = is_val val

abbrev pub is_change : Mutation → Bool
is_change (Assign val) = is_put val
is_change (Insert val) = is_put val
is_change Delete = true
is_change (Add n) = is_amount n

-- 1 to 64
abbrev pub is_limit : ℕ → Bool
is_limit limit = nat_le 1 limit && nat_le limit greatest_limit

abbrev pub is_doc_request : DocRequest → Bool
is_doc_request ask.Open = true
is_doc_request (ask.State s) = true
is_doc_request (ask.Change expr change) = is_start expr.start && is_change change
is_doc_request (ask.Look expr look) = is_start expr.start
is_doc_request (ask.Let name expr) = is_variable name && is_start expr.start
is_doc_request (ask.Deliver op) = is_shaped op
is_doc_request (ask.Operations front limit) = (list_all is_entry front && is_ascending front)
    && is_limit limit
is_doc_request (ask.Chains after front) = (list_all is_entry after && list_all is_entry front)
    && (is_ascending after && is_ascending front)
is_doc_request (ask.IsCopied id) = is_id id
is_doc_request (ask.Forget id) = is_id id

abbrev pub is_request : Request → Bool
is_request (Of document ask) = is_doc_request ask
is_request _ = true
