use Rattle.std.proofs.Common.{◌≡◌, Some, None, Err, get_or, ap, refl}
use Rattle.std.proofs.lemmas.Result.{err_from_is_err_and}
use Rattle.serde_json.specs.View.{view}
use Rattle.op_core.specs.Reading.{tagged_within}
use Rattle.op_core.proofs.Readings.{due_Ok, due_Err, path_within-more, path_within-none}
use Rattle.op_core.proofs.decode.read_path.Goals as goal

pub returns-in_err-read_tagged : goal.returns-in_err-read_tagged
returns-in_err-read_tagged c =
    let exit = err_from_is_err_and c.from_residual-in_err-read_tagged.result c.from_residual-in_err-read_tagged.ensures.1 in
    let vs = c.args.items.now in
    let value = c.item-item.result in
    rw (exit.1, exit.2)
    (λ other.
    let due = due_Err (tagged_within c.args.longest (view value)) c.read_tagged.result c.in_err-read_tagged.field-0.0 c.read_tagged.ensures c.in_err-read_tagged.was (λ memory. other (ap Err memory)) in
    let none : tagged_within c.args.longest (view (get_or vs c.loop-item.item-index value)) ≡ None = rw (← c.item-item.is) due.0 in
    rw (due.1, path_within-none c.args.longest vs c.loop-item.item-index value c.loop-item.path c.loop-item-test.true c.loop-item.invariant none) refl)

pub loop-item-preserved : goal.loop-item-preserved
loop-item-preserved c =
    let vs = c.args.items.now in
    let value = c.item-item.result in
    let due = due_Ok (tagged_within c.args.longest (view value)) c.read_tagged.result c.in_ok-read_tagged.field-0 c.read_tagged.ensures c.in_ok-read_tagged.was in
    let some : tagged_within c.args.longest (view (get_or vs c.loop-item.item-index value)) ≡ Some c.in_ok-read_tagged.field-0 = rw (← c.item-item.is) due in
    rw (c.in_ok-push.ensures.ok) (path_within-more c.args.longest vs c.loop-item.item-index value c.loop-item.path c.in_ok-read_tagged.field-0 c.loop-item-test.true c.loop-item.invariant some)
