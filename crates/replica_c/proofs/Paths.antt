-- The parts of a place, and the items after a word, as they are read.
use Rattle.std.proofs.Common.{◌≡◌, ◌≢◌, ℕ, ◌-◌, ◌≤◌, List, [], ◌∷◌, length, take, drop, get_or, Option, Some, None, Result, Ok, Err, refl, sym, ◌∙◌, arith}
use Rattle.std.proofs.lemmas.List.{take_rest}
use Rattle.std.specs.Option.{ok_or}
use Rattle.serde_json.specs.View.{view, items_view}
use Rattle.serde_json.specs.declared.value.Value.{Value}
use Rattle.json_scalar.specs.Refusal.{UnlessMemory, and_then}
use Rattle.json_scalar.specs.declared.refusal.Refusal.{Refusal}
use Rattle.json_scalar.specs.declared.refusal.Refusal.TheVariants.{BadOperation, BadRequest, NoMemory}
use Rattle.op_core.specs.Reading.{◌>>=◌}
use Rattle.op_core.specs.declared.cursor.Cursor.{Cursor}
use Rattle.serde_json.specs.Data.{item}
use Rattle.doc_api.specs.declared.place.Step.{Step}
use Rattle.line_proto.specs.Reading.{steps_from}
use Rattle.replica_c.specs.Places.{in_a_place, place_items, place_start}
use Rattle.replica_c.specs.Asking.{ask_by, some_items, vals_of}

pub ask_by-many : (verb : List ℕ) (vs : List Value) → 3 ≤ length vs → ask_by verb (items_view vs) ≡ Err BadRequest
ask_by-many verb [] h = absurd (omega arith)
ask_by-many verb (a ∷ []) h = absurd (omega arith)
ask_by-many verb (a ∷ b ∷ []) h = absurd (omega arith)
ask_by-many verb (a ∷ b ∷ c ∷ vs) h = refl

-- items that are some
pub some_read : (vs : List Value) → 1 ≤ length vs → and_then (ok_or (some_items (items_view vs)) BadRequest) vals_of ≡ vals_of (items_view vs)
some_read [] h = absurd (omega (arith, h))
some_read (v ∷ vs) h = refl

-- what a part of a place is, by how it was read
pub part_Ok : {A : Type 0} (o : Option A) (r : Result A Refusal) (x : A) → UnlessMemory r (ok_or o BadRequest) → r ≡ Ok x → o ≡ Some x
part_Ok None r x h is = let due : r ≡ Err BadRequest = h (λ e. cc) in cc
part_Ok (Some y) r x h is = let due : r ≡ Ok y = h (λ e. cc) in cc

pub part_Err : {A : Type 0} (o : Option A) (r : Result A Refusal) (e : Refusal) → UnlessMemory r (ok_or o BadRequest) → r ≡ Err e → e ≢ NoMemory → (o ≡ None) × (e ≡ BadRequest)
part_Err None r e h is other = let due : r ≡ Err BadRequest = h (λ f. other (let same : Err e ≡ Err NoMemory = sym is ∙ f in cc)) in (refl, cc)
part_Err (Some y) r e h is other = let due : r ≡ Ok y = h (λ f. other (let same : Err e ≡ Err NoMemory = sym is ∙ f in cc)) in (cc, cc)

-- what a cursor is refused for, and then its place
pub moved_cause : {A : Type 0} (o : Option A) (r : Result A Refusal) (e : Refusal) → UnlessMemory r (ok_or o BadOperation) → r ≡ Err e → UnlessMemory (Err (in_a_place e)) (ok_or o BadRequest)
moved_cause o r NoMemory h is = λ other. absurd (other refl)
moved_cause None r e h is = λ other. refl
moved_cause (Some x) r e h is =
    let due : r ≡ Ok x = h (λ m. let same : Err e ≡ Err NoMemory = sym is ∙ m in cc) in
    let clash : Err e ≡ Ok x = sym is ∙ due in
    cc

-- the first item is the start, and the others are steps
pub place_items-by : (vs : List Value) (a : Value) → 1 ≤ length vs → a ≡ get_or vs 0 a → (start : Option Cursor) (steps : Option (List Step))
    → place_start (view a) ≡ start → steps_from (items_view (take (length vs - 1) (drop 1 vs))) ≡ steps
    → place_items (items_view vs) ≡ (start >>= (λ s. steps >>= (λ t. Some (record { start = s; steps = t }))))
place_items-by [] a some first start steps e d = absurd (omega (arith, some))
place_items-by (x ∷ vs) a some first start steps e d =
    let whole : place_items (item (view a) (items_view (take (length (x ∷ vs) - 1) (drop 1 (x ∷ vs))))) ≡ place_items (items_view (x ∷ vs)) =
    λ i. place_items (item (view (first i)) (items_view (take_rest (x ∷ vs) 1 i))) in
    sym whole ∙ (λ i. e i >>= (λ s. d i >>= (λ t. Some (record { start = s; steps = t }))))
