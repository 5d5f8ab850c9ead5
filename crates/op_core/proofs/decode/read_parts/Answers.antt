use Rattle.std.proofs.Common.{◌≡◌, false, Err, sym, ap, ◌∙◌, refl}
use Rattle.std.proofs.lemmas.Result.{err_from_is_err_and}
use Rattle.serde_json.specs.View.{view}
use Rattle.op_core.specs.Reading.{is_long, path_len, stamp_from, change_from}
use Rattle.op_core.proofs.Readings.{due_Ok, due_Err}
use Rattle.op_core.proofs.decode.read_parts.Goals as goal

pub returns-in_err-id : goal.returns-in_err-id
returns-in_err-id c =
    let parts = c.args.parts.now in
    let short : is_long (path_len (view parts.cursor.now)) ≡ false = sym c.is_long.ensures ∙ c.if-is_long.false in
    let exit = err_from_is_err_and c.from_residual.result c.from_residual.ensures.1 in
    rw (exit.1, exit.2)
    (λ other.
    let stamp = due_Err (stamp_from (view parts.id.now) (view parts.front.now)) c.read_stamp.result c.in_err-id.field-0.0 c.read_stamp.ensures c.in_err-id.was (λ memory. other (ap Err memory)) in
    rw (stamp.1, short, stamp.0) refl)

pub returns-in_err-cursor : goal.returns-in_err-cursor
returns-in_err-cursor c =
    let parts = c.args.parts.now in
    let short : is_long (path_len (view parts.cursor.now)) ≡ false = sym c.is_long.ensures ∙ c.if-is_long.false in
    let stamp = due_Ok (stamp_from (view parts.id.now) (view parts.front.now)) c.read_stamp.result (c.in_ok-id.id, c.in_ok-id.front) c.read_stamp.ensures c.in_ok-id.was in
    let exit = err_from_is_err_and c.from_residual-in_err-cursor.result c.from_residual-in_err-cursor.ensures.1 in
    rw (exit.1, exit.2)
    (λ other.
    let change = due_Err (change_from (view parts.cursor.now) (view parts.mutation.now)) c.read_change.result c.in_err-cursor.field-0.0 c.read_change.ensures c.in_err-cursor.was (λ memory. other (ap Err memory)) in
    rw (change.1, short, stamp, change.0) refl)

pub returns : goal.returns
returns c =
    let parts = c.args.parts.now in
    let short : is_long (path_len (view parts.cursor.now)) ≡ false = sym c.is_long.ensures ∙ c.if-is_long.false in
    let stamp = due_Ok (stamp_from (view parts.id.now) (view parts.front.now)) c.read_stamp.result (c.in_ok-id.id, c.in_ok-id.front) c.read_stamp.ensures c.in_ok-id.was in
    let change = due_Ok (change_from (view parts.cursor.now) (view parts.mutation.now)) c.read_change.result (c.in_ok-cursor.cursor, c.in_ok-cursor.mutation) c.read_change.ensures c.in_ok-cursor.was in
    λ other. rw (c.shaped.ensures other, short, stamp, change) refl
