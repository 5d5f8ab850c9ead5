use Rattle.std.proofs.Common.{Err, ap, refl}
use Rattle.std.proofs.lemmas.Result.{err_from_is_err_and}
use Rattle.serde_json.specs.View.{view, items_view}
use Rattle.op_core.specs.Reading.{path_within, key_within}
use Rattle.op_core.proofs.Readings.{due_Ok, due_Err}
use Rattle.op_core.proofs.decode.read_cursor.Goals as goal

pub returns-in_err-path : goal.returns-in_err-path
returns-in_err-path c =
    let exit = err_from_is_err_and c.from_residual.result c.from_residual.ensures.1 in
    rw (exit.1, exit.2)
    (λ other.
    let path = due_Err (path_within c.args.longest (items_view c.as_slice.result.now)) c.read_path.result c.in_err-path.field-0.0 c.read_path.ensures c.in_err-path.was (λ memory. other (ap Err memory)) in
    rw (path.1, ← c.pair.ensures, c.in-Some.is, ← c.as_array.ensures, c.in-Some-as_array.is, ← c.as_slice.ensures.value, path.0) refl)

pub returns-in_err-key : goal.returns-in_err-key
returns-in_err-key c =
    let exit = err_from_is_err_and c.from_residual-in_err-key.result c.from_residual-in_err-key.ensures.1 in
    let path = due_Ok (path_within c.args.longest (items_view c.as_slice.result.now)) c.read_path.result c.in_ok-path.path c.read_path.ensures c.in_ok-path.was in
    rw (exit.1, exit.2)
    (λ other.
    let key = due_Err (key_within c.args.longest (view c.in-Some.key.now)) c.read_key.result c.in_err-key.field-0.0 c.read_key.ensures c.in_err-key.was (λ memory. other (ap Err memory)) in
    rw (key.1, ← c.pair.ensures, c.in-Some.is, ← c.as_array.ensures, c.in-Some-as_array.is, ← c.as_slice.ensures.value, path, key.0) refl)

pub returns : goal.returns
returns c =
    let path = due_Ok (path_within c.args.longest (items_view c.as_slice.result.now)) c.read_path.result c.in_ok-path.path c.read_path.ensures c.in_ok-path.was in
    let key = due_Ok (key_within c.args.longest (view c.in-Some.key.now)) c.read_key.result c.in_ok-key.key c.read_key.ensures c.in_ok-key.was in
    λ other. rw (← c.pair.ensures, c.in-Some.is, ← c.as_array.ensures, c.in-Some-as_array.is, ← c.as_slice.ensures.value, path, key) refl
