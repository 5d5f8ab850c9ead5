-- For which causes a line that is no request is refused, stated by the written forms alone.
use Rattle.std.specs.Prelude.{◌≡◌, ◌≢◌, ◌⊎◌, ℕ, ◌&&◌, false, List, [], ◌∷◌, codes, Option, Some, None}
use Rattle.std.specs.Prelude.{Err, IsTrue, ⊤}
use Rattle.std.specs.List.{list_all}
use Rattle.serde_json.specs.Data.{Data, number, unsigned}
use Rattle.doc_api.specs.Words.{Refusal, NoMemory}
use Rattle.json_scalar.specs.declared.refusal.Refusal.TheVariants.{NotJson, BadRequest, BadValue}
use Rattle.json_scalar.specs.declared.refusal.Refusal.TheVariants.{BadOperation}
use Rattle.json_scalar.specs.declared.refusal.Refusal.TheVariants.{BadFront, TooDeep}
use Rattle.version_vector.specs.Front.{is_ascending}
use Rattle.op_core.specs.Shape.{is_entry}
use Rattle.op_core.specs.Wire.{front_data}
use Rattle.op_core.specs.Written.{ReadsOp}
use Rattle.line_proto.specs.Written.{asks, expr_data, request_data, is_start, is_limit, is_request}
use Rattle.line_proto.specs.declared.request.CursorExpr.{CursorExpr}
use Rattle.line_proto.specs.declared.request.Request.{Request}

-- the changes that put something
pub data Putting : Type 0 where
  assigns : Putting
  inserts : Putting
  adds : Putting

abbrev pub putting_word : Putting → List ℕ
putting_word assigns = codes "assign"
putting_word inserts = codes "insert"
putting_word adds = codes "add"

-- The JSON is an assignment, an insertion or an addition, of whatever JSON.
pub record AsksToPut (d : Data) : Type 0 where
  pub putting : Putting
  pub document : List ℕ
  pub expr : CursorExpr
  pub value : Data
  pub started : IsTrue (is_start expr.start)
  pub form : asks (putting_word putting) document (expr_data expr ∷ value ∷ []) ≡ d

-- The JSON is a delivery of this, whatever it is.
pub record AsksToDeliver (d op : Data) : Type 0 where
  pub document : List ℕ
  pub form : asks (codes "deliver") document (op ∷ []) ≡ d

-- The JSON asks for operations that this front doesn't cover, whatever its order.
pub record AsksForOperations (d : Data) (front : List (List ℕ × ℕ)) : Type 0 where
  pub document : List ℕ
  pub limit : ℕ
  pub entries : IsTrue (list_all is_entry front)
  pub limited : IsTrue (is_limit limit)
  pub form : asks (codes "ops") document (front_data front ∷ number (unsigned limit) ∷ []) ≡ d

-- The JSON asks for the chains between these fronts, whatever their order.
pub record AsksForChains (d : Data) (after front : List (List ℕ × ℕ)) : Type 0 where
  pub document : List ℕ
  pub after_entries : IsTrue (list_all is_entry after)
  pub entries : IsTrue (list_all is_entry front)
  pub form : asks (codes "chains") document (front_data after ∷ front_data front ∷ []) ≡ d

-- no request is written so
abbrev pub IsNoRequest : Data → Type 0
IsNoRequest d = (r : Request) → IsTrue (is_request r) → request_data r ≢ d

-- The causes for which JSON that is no request may be refused: it has no form of a request; or it
-- has one, and what is put is no value, what is delivered is refused so, or a front doesn't
-- ascend. Or there is no memory.
abbrev pub IsRefusedFor : Data → Refusal → Type 0
IsRefusedFor d BadRequest =
    IsNoRequest d × ¬ AsksToPut d × ((op : Data) → ¬ AsksToDeliver d op)
    × ((front : List (List ℕ × ℕ)) → ¬ AsksForOperations d front)
    × ((after front : List (List ℕ × ℕ)) → ¬ AsksForChains d after front)
IsRefusedFor d BadValue = AsksToPut d × IsNoRequest d
IsRefusedFor d TooDeep = (op : Data) × AsksToDeliver d op × ReadsOp op (Err TooDeep)
IsRefusedFor d BadOperation = (op : Data) × AsksToDeliver d op × ReadsOp op (Err BadOperation)
IsRefusedFor d BadFront =
    ((op : Data) × AsksToDeliver d op × ReadsOp op (Err BadFront))
    ⊎ (((front : List (List ℕ × ℕ)) × AsksForOperations d front × (is_ascending front ≡ false))
    ⊎ ((after front : List (List ℕ × ℕ)) × AsksForChains d after front
    × ((is_ascending after && is_ascending front) ≡ false)))
IsRefusedFor d NoMemory = ⊤
IsRefusedFor d _ = ⊥

-- for which causes a line is refused, by the JSON that it is
abbrev pub IsLineRefusedFor : Option Data → Refusal → Type 0
IsLineRefusedFor None NotJson = ⊤
IsLineRefusedFor None NoMemory = ⊤
IsLineRefusedFor None _ = ⊥
IsLineRefusedFor (Some d) cause = IsRefusedFor d cause
