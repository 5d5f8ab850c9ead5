-- Each request is read from its written form.
use Rattle.std.proofs.Common.{◌≡◌, ℕ, ◌&&◌, ℤ, pos, negsuc, nat_le, true, List, [], ◌∷◌, map, Some, Ok, refl, sym, ap, ◌∙◌}
use Rattle.serde_json.specs.Find.{of_integer}
use Rattle.serde_json.specs.View.{items_of}
use Rattle.json_scalar.specs.Scalar.{val_data, val_of, int_of}
use Rattle.doc_api.specs.Words.{Val, Mutation, Assign, Insert, Delete, Add}
use Rattle.json_scalar.specs.declared.scalar.Val.TheVariants.{Scalar, EmptyMap, EmptyList}
use Rattle.json_scalar.specs.declared.scalar.Scalar.TheVariants.{Int, Text, Bool as Truth, Null}
use Rattle.json_scalar.proofs.Readings.{val_of-val_data}
use Rattle.version_vector.specs.Front.{is_ascending}
use Rattle.op_core.specs.Shape.{is_entry}
use Rattle.op_core.proofs.Wires.{id_from-id_data, front_of_json-front_data}
use Rattle.op_core.proofs.Operations.{op_from-wire}
use Rattle.std.specs.List.{list_all}
use Rattle.std.proofs.lemmas.Bool.{and_parts}
use Rattle.line_proto.specs.Reading.{steps_from, expr_from, request_from}
use Rattle.line_proto.specs.Written.{step_data, expr_data, is_start, is_variable, is_put, is_amount, is_change, is_doc_request, is_request, request_data}
use Rattle.doc_api.specs.declared.place.Step.{Step}
use Rattle.doc_api.specs.declared.place.Step.TheVariants.{Get, Index}
use Rattle.doc_api.specs.declared.ask.Look.{Look}
use Rattle.doc_api.specs.declared.ask.Look.TheVariants.{Keys}
use Rattle.doc_api.specs.declared.ask.State.{State}
use Rattle.doc_api.specs.declared.ask.State.TheVariants.{Front}
use Rattle.line_proto.specs.declared.request.Start.{Start}
use Rattle.line_proto.specs.declared.request.Start.TheVariants.{Document, Variable}
use Rattle.line_proto.specs.declared.request.CursorExpr.{CursorExpr}
use Rattle.line_proto.specs.declared.request.DocRequest.{DocRequest}
use Rattle.line_proto.specs.declared.request.DocRequest.TheVariants as ask
use Rattle.line_proto.specs.declared.request.Request.{Request}
use Rattle.line_proto.specs.declared.request.Request.TheVariants.{Of}

pub steps_from-step_data : (steps : List Step) → steps_from (items_of (map step_data steps)) ≡ Some steps
steps_from-step_data [] = refl
steps_from-step_data (Get text ∷ steps) = rw (steps_from-step_data steps) refl
steps_from-step_data (Index n ∷ steps) = rw (steps_from-step_data steps) refl

expr_from-parts : (start : Start) (steps : List Step) → is_start start ≡ true → expr_from (expr_data (record { start = start; steps = steps })) ≡ Some (record { start = start; steps = steps })
expr_from-parts Document steps h = rw (steps_from-step_data steps) refl
expr_from-parts (Variable name) steps h = rw (h, steps_from-step_data steps) refl

pub expr_from-expr_data : (expr : CursorExpr) → is_start expr.start ≡ true → expr_from (expr_data expr) ≡ Some expr
expr_from-expr_data expr h = expr_from-parts expr.start expr.steps h

pub val_of-put : (val : Val) → is_put val ≡ true → val_of (val_data val) ≡ Ok val
val_of-put (Scalar (Int (pos n))) h = val_of-val_data (Scalar (Int (pos n))) h
val_of-put (Scalar (Int (negsuc n))) h = refl
val_of-put (Scalar (Text text)) h = val_of-val_data (Scalar (Text text)) h
val_of-put (Scalar (Truth b)) h = refl
val_of-put (Scalar Null) h = refl
val_of-put EmptyMap h = refl
val_of-put EmptyList h = refl

pub int_of-of_integer : (n : ℤ) → is_amount n ≡ true → int_of (of_integer n) ≡ Some n
int_of-of_integer (pos n) h = rw h
int_of-of_integer (negsuc n) h = refl

reads_change : (document : List ℕ) (expr : CursorExpr) (change : Mutation) → is_start expr.start ≡ true → is_change change ≡ true
    → request_from (request_data (Of document (ask.Change expr change))) ≡ Ok (Of document (ask.Change expr change))
reads_change document expr (Assign val) h k = rw (expr_from-expr_data expr h, val_of-put val k) refl
reads_change document expr (Insert val) h k = rw (expr_from-expr_data expr h, val_of-put val k) refl
reads_change document expr Delete h k = rw (expr_from-expr_data expr h) refl
reads_change document expr (Add n) h k = rw (expr_from-expr_data expr h, int_of-of_integer n k) refl

reads_look : (document : List ℕ) (expr : CursorExpr) (look : Look) → is_start expr.start ≡ true
    → request_from (request_data (Of document (ask.Look expr look))) ≡ Ok (Of document (ask.Look expr look))
reads_look document expr Keys h = rw (expr_from-expr_data expr h) refl
reads_look document expr look h = rw (expr_from-expr_data expr h) refl

reads_state : (document : List ℕ) (s : State) → request_from (request_data (Of document (ask.State s))) ≡ Ok (Of document (ask.State s))
reads_state document Front = refl
reads_state document s = refl

reads_doc_request : (document : List ℕ) (asked : DocRequest) → is_doc_request asked ≡ true → request_from (request_data (Of document asked)) ≡ Ok (Of document asked)
reads_doc_request document ask.Open h = refl
reads_doc_request document (ask.State s) h = reads_state document s
reads_doc_request document (ask.Change expr change) h = let parts = and_parts (is_start expr.start) (is_change change) h in reads_change document expr change parts.0 parts.1
reads_doc_request document (ask.Look expr look) h = reads_look document expr look h
reads_doc_request document (ask.Let name expr) h =
    let parts = and_parts (is_variable name) (is_start expr.start) h in
    rw (parts.0, expr_from-expr_data expr parts.1) refl
reads_doc_request document (ask.Deliver op) h = rw (op_from-wire op h) refl
reads_doc_request document (ask.Operations front limit) h =
    let parts = and_parts (list_all is_entry front && is_ascending front) (nat_le 1 limit && nat_le limit 64) h in
    let order = and_parts (list_all is_entry front) (is_ascending front) parts.0 in
    rw (parts.1, front_of_json-front_data front order.0, order.1) refl
reads_doc_request document (ask.Chains after front) h =
    let parts = and_parts (list_all is_entry after && list_all is_entry front) (is_ascending after && is_ascending front) h in
    let entries = and_parts (list_all is_entry after) (list_all is_entry front) parts.0 in
    rw (front_of_json-front_data after entries.0, front_of_json-front_data front entries.1, parts.1) refl
reads_doc_request document (ask.IsCopied id) h = rw (id_from-id_data id h) refl
reads_doc_request document (ask.Forget id) h = rw (id_from-id_data id h) refl

pub request_from-request_data : (r : Request) → is_request r ≡ true → request_from (request_data r) ≡ Ok r
request_from-request_data (Of document asked) h = reads_doc_request document asked h
request_from-request_data r h = refl

-- no two requests have the same written form
pub request_data_injective : (r other : Request) → is_request r ≡ true → is_request other ≡ true → request_data r ≡ request_data other → r ≡ other
request_data_injective r other h k same =
    let first = request_from-request_data r h in
    let second = request_from-request_data other k in
    let both_ways : Ok r ≡ Ok other = sym first ∙ ap request_from same ∙ second in
    cc
