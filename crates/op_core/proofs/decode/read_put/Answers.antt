use Rattle.std.proofs.Common.{Err, ap, refl}
use Rattle.std.specs.Result.{result_ok}
use Rattle.std.proofs.lemmas.Result.{err_from_is_err_and}
use Rattle.serde_json.specs.View.{view}
use Rattle.json_scalar.specs.Scalar.{val_of}
use Rattle.op_core.proofs.Readings.{due_Ok, due_Err}
use Rattle.op_core.proofs.decode.read_put.Goals as goal

pub returns-in_err-val : goal.returns-in_err-val
returns-in_err-val c =
    let exit = err_from_is_err_and c.from_residual.result c.from_residual.ensures.1 in
    rw (exit.1, exit.2)
    (λ other.
    let val = due_Err (result_ok (val_of (view c.args.val.now))) c.read_val.result c.in_err-val.field-0.0 c.read_val.ensures c.in_err-val.was (λ memory. other (ap Err memory)) in
    rw (val.1, ← c.as_str.ensures, c.in-Some.is, val.0) refl)

pub returns : goal.returns
returns c =
    let val = due_Ok (result_ok (val_of (view c.args.val.now))) c.read_val.result c.in_ok-val.val c.read_val.ensures c.in_ok-val.was in
    λ other. rw (c.put.ensures, val, ← c.as_str.ensures, c.in-Some.is) refl
