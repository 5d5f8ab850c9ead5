use Rattle.std.proofs.Common.{Err, ap, refl}
use Rattle.std.proofs.lemmas.Result.{err_from_is_err_and}
use Rattle.serde_json.specs.View.{view}
use Rattle.op_core.specs.Reading.{cursor_from, mutation_from}
use Rattle.op_core.proofs.Readings.{due_Ok, due_Err}
use Rattle.op_core.proofs.decode.read_change.Goals as goal

pub returns-in_err-cursor : goal.returns-in_err-cursor
returns-in_err-cursor c =
    let exit = err_from_is_err_and c.from_residual.result c.from_residual.ensures.1 in
    rw (exit.1, exit.2)
    (λ other.
    let cursor = due_Err (cursor_from (view c.args.cursor.now)) c.read_cursor.result c.in_err-cursor.field-0.0 c.read_cursor.ensures c.in_err-cursor.was (λ memory. other (ap Err memory)) in
    rw (cursor.1, cursor.0) refl)

pub returns-in_err-mutation : goal.returns-in_err-mutation
returns-in_err-mutation c =
    let exit = err_from_is_err_and c.from_residual-in_err-mutation.result c.from_residual-in_err-mutation.ensures.1 in
    let cursor = due_Ok (cursor_from (view c.args.cursor.now)) c.read_cursor.result c.in_ok-cursor.cursor c.read_cursor.ensures c.in_ok-cursor.was in
    rw (exit.1, exit.2)
    (λ other.
    let mutation = due_Err (mutation_from (view c.args.mutation.now)) c.read_mutation.result c.in_err-mutation.field-0.0 c.read_mutation.ensures c.in_err-mutation.was (λ memory. other (ap Err memory)) in
    rw (mutation.1, cursor, mutation.0) refl)

pub returns : goal.returns
returns c =
    let cursor = due_Ok (cursor_from (view c.args.cursor.now)) c.read_cursor.result c.in_ok-cursor.cursor c.read_cursor.ensures c.in_ok-cursor.was in
    let mutation = due_Ok (mutation_from (view c.args.mutation.now)) c.read_mutation.result c.in_ok-mutation.mutation c.read_mutation.ensures c.in_ok-mutation.was in
    λ other. rw (cursor, mutation) refl
