-- A refusal that the rules state is what is answered.
use Rattle.std.proofs.Common.{◌≡◌, ◌≢◌, ◌&&◌, inl, inr, ℕ, List, true, false, cond, Option, Some, None, Result, Ok, Err, ok_or, refl, sym, ap, ◌∙◌, ◌==◌, ◌+◌}
use Rattle.std.proofs.lemmas.Bool.{and_parts}
use Rattle.std.specs.List.{list_all}
use Rattle.serde_json.specs.Data.{Data}
use Rattle.doc_api.specs.Words.{Refusal, NoMemory}
use Rattle.json_scalar.specs.Refusal.{and_then}
use Rattle.json_scalar.specs.declared.refusal.Refusal.TheVariants.{NotJson, BadRequest, BadValue, BadOperation, BadFront, TooDeep}
use Rattle.version_vector.specs.Front.{is_ascending, max_counter}
use Rattle.op_core.specs.Op.{Op}
use Rattle.op_core.specs.Reading.{◌>>=◌, Parts, front_of_json, id_from, op_from, op_from_parts, op_of, parts_of, shaped}
use Rattle.op_core.specs.Shape.{has_form, has_front, has_parts, is_allowed, is_entry, is_id, is_key, is_mutation, is_placed, is_shallow, is_shaped, is_tagged}
use Rattle.op_core.specs.Wire.{wire}
use Rattle.op_core.specs.Written.{ReadsOp, is_long_in}
use Rattle.op_core.proofs.Wires.{front_of_json-front_data, id_from-id_data}
use Rattle.op_core.proofs.Operations.{ReadsOp-from_answer}
use Rattle.line_proto.specs.Reading.{request_from, line_data, request_of}
use Rattle.line_proto.specs.Refused.{AsksToDeliver, IsRefusedFor, IsLineRefusedFor}
use Rattle.line_proto.specs.declared.request.Request.{Request}
use Rattle.line_proto.proofs.Found.{request_from-Ok}
use Rattle.line_proto.proofs.Refusing.{delivered, compared, is_refused_for, op_from-never_memory, pulled, put-refused, request_from-caused}

-- ---- operations

too_deep : (o : Option Parts) → is_long_in o ≡ true → and_then (ok_or o BadOperation) op_from_parts ≡ Err TooDeep
too_deep None h = cc
too_deep (Some parts) h = ap (λ b. cond b (Err TooDeep) (and_then (ok_or (op_of parts) BadOperation) shaped)) h

-- an id and a front of the right form
stamp_formed : (op : Op) → has_form op ≡ true → (is_id op.id ≡ true) × (list_all is_entry op.front ≡ true)
stamp_formed op h =
    let form = and_parts (has_parts op && is_placed op.cursor.path op.cursor.key) (is_allowed op.mutation op.cursor) h in
    let parts = (and_parts (has_parts op) (is_placed op.cursor.path op.cursor.key) form.0).0 in
    let fourth = and_parts (is_id op.id && list_all is_entry op.front && (list_all is_tagged op.cursor.path && is_key op.cursor.key)) (is_mutation op.mutation) parts in
    and_parts (is_id op.id) (list_all is_entry op.front)
    (and_parts (is_id op.id && list_all is_entry op.front) (list_all is_tagged op.cursor.path && is_key op.cursor.key) fourth.0).0

shaped_parts : (op : Op) → is_shaped op ≡ true → (has_form op ≡ true) × (has_front op ≡ true)
shaped_parts op h =
    let ends = and_parts (is_shallow op.cursor.path && has_form op) (has_front op) h in
    ((and_parts (is_shallow op.cursor.path) (has_form op) ends.0).1, ends.1)

-- operations that are written alike have one id and one front
same_front : (x y : Op) → wire x ≡ wire y → has_form x ≡ true → has_form y ≡ true → has_front x ≡ has_front y
same_front x y same p q =
    let first = stamp_formed x p in
    let second = stamp_formed y q in
    let ids : Some x.id ≡ Some y.id = sym (id_from-id_data x.id first.0) ∙ ap (λ d. parts_of d >>= (λ parts. id_from parts.id)) same ∙ id_from-id_data y.id second.0 in
    let fronts : Some x.front ≡ Some y.front =
    sym (front_of_json-front_data x.front first.1) ∙ ap (λ d. parts_of d >>= (λ parts. front_of_json parts.front)) same ∙ front_of_json-front_data y.front second.1 in
    let id : x.id ≡ y.id = cc in
    let front : x.front ≡ y.front = cc in
    λ i. is_ascending (front i) && (id i).counter == max_counter (front i) + 1

-- of JSON that no operation of the right form has
unformed : (op : Data) (r : Result Op Refusal) → ReadsOp op r → ReadsOp op (Err BadOperation) → r ≢ Err NoMemory → r ≡ Err BadOperation
unformed op (Ok x) h stated other = absurd (stated.1 x (shaped_parts x h.1).0 h.0)
unformed op (Err TooDeep) h stated other = let clash : true ≡ false = sym h ∙ stated.0 in cc
unformed op (Err BadOperation) h stated other = refl
unformed op (Err BadFront) (short, (x, same, formed, front)) stated other = absurd (stated.1 x formed same)
unformed op (Err NoMemory) h stated other = absurd (other refl)
unformed op (Err e) h stated other = absurd h

-- of JSON with a wrong front
unordered : (op : Data) (r : Result Op Refusal) → ReadsOp op r → ReadsOp op (Err BadFront) → r ≢ Err NoMemory → r ≡ Err BadFront
unordered op (Ok x) h (short, (y, same, formed, front)) other =
    let parts = shaped_parts x h.1 in
    let clash : true ≡ false = sym parts.1 ∙ same_front x y (h.0 ∙ sym same) parts.0 formed ∙ front in
    cc
unordered op (Err TooDeep) h stated other = let clash : true ≡ false = sym h ∙ stated.0 in cc
unordered op (Err BadOperation) h (short, (y, same, formed, front)) other = absurd (h.1 y formed same)
unordered op (Err BadFront) h stated other = refl
unordered op (Err NoMemory) h stated other = absurd (other refl)
unordered op (Err e) h stated other = absurd h

op_stated : (op : Data) (e : Refusal) → ReadsOp op (Err e) → e ≢ NoMemory → op_from op ≡ Err e
op_stated op TooDeep stated other = too_deep (parts_of op) stated
op_stated op BadOperation stated other = unformed op (op_from op) (ReadsOp-from_answer op (op_from op) (λ _. refl)) stated (op_from-never_memory op)
op_stated op BadFront stated other = unordered op (op_from op) (ReadsOp-from_answer op (op_from op) (λ _. refl)) stated (op_from-never_memory op)
op_stated op NoMemory stated other = absurd (other refl)
op_stated op e stated other = absurd stated

-- ---- requests

delivery_stated : (d op : Data) (e : Refusal) → AsksToDeliver d op → ReadsOp op (Err e) → e ≢ NoMemory → request_from d ≡ Err e
delivery_stated d op e p stated other = delivered d op p (Err e) (op_stated op e stated other)

-- where there is no form, no other cause is stated
only_form : (d : Data) → IsRefusedFor d BadRequest → (c : Refusal) → request_from d ≡ Err c → IsRefusedFor d c → c ≡ BadRequest
only_form d stated BadRequest is h = refl
only_form d stated BadValue is h = absurd (stated.1 h.0)
only_form d stated TooDeep is (op, p, reads) = absurd (stated.2 op p)
only_form d stated BadOperation is (op, p, reads) = absurd (stated.2 op p)
only_form d stated BadFront is (inl (op, p, reads)) = absurd (stated.2 op p)
only_form d stated BadFront is (inr (inl (front, p, order))) = absurd (stated.3 front p)
only_form d stated BadFront is (inr (inr (after, front, p, order))) = absurd (stated.4 after front p)
only_form d stated NoMemory is h = absurd (request_from-caused d NoMemory is)
only_form d stated e is h = absurd h

answer_stated : (d : Data) (e : Refusal) → IsRefusedFor d e → e ≢ NoMemory → request_from d ≡ Err e
answer_stated d BadRequest stated other = by (request_from d) refl
  where
    by : (r : Result Request Refusal) → request_from d ≡ r → r ≡ Err BadRequest
    by (Ok x) is = let made = request_from-Ok d x is in absurd (stated.0 x made.1 made.0)
    by (Err c) is = ap Err (only_form d stated c is (is_refused_for d c is))
answer_stated d BadValue stated other = by (request_from d) refl
  where
    by : (r : Result Request Refusal) → request_from d ≡ r → r ≡ Err BadValue
    by (Ok x) is = let made = request_from-Ok d x is in absurd (stated.1 x made.1 made.0)
    by (Err c) is = ap Err (put-refused d stated.0 c is)
answer_stated d TooDeep (op, p, reads) other = delivery_stated d op TooDeep p reads other
answer_stated d BadOperation (op, p, reads) other = delivery_stated d op BadOperation p reads other
answer_stated d BadFront (inl (op, p, reads)) other = delivery_stated d op BadFront p reads other
answer_stated d BadFront (inr (inl (front, p, order))) other = pulled d front p false order
answer_stated d BadFront (inr (inr (after, front, p, order))) other = compared d after front p false order
answer_stated d NoMemory stated other = absurd (other refl)
answer_stated d e stated other = absurd stated

-- ---- lines

stated_at : (found : Option Data) (e : Refusal) → e ≢ NoMemory → IsLineRefusedFor found e → and_then (ok_or found NotJson) request_from ≡ Err e
stated_at None NotJson other stated = refl
stated_at None NoMemory other stated = absurd (other refl)
stated_at None e other stated = absurd stated
stated_at (Some d) e other stated = answer_stated d e stated other

-- a line for which a refusal is stated has that answer
pub line_stated : (line : List ℕ) (e : Refusal) → e ≢ NoMemory → IsLineRefusedFor (line_data line) e → request_of line ≡ Err e
line_stated line e other stated = stated_at (line_data line) e other stated
