use Rattle.std.proofs.Common.{◌-◌, List, length, take, drop, Option, Some, None, Err, ap, refl, sym}
use Rattle.std.proofs.lemmas.Result.{err_from_is_err_and}
use Rattle.std.specs.Option.{ok_or}
use Rattle.serde_json.specs.View.{view, items_view}
use Rattle.json_scalar.specs.declared.refusal.Refusal.TheVariants.{BadRequest}
use Rattle.doc_api.specs.declared.place.Place.{Place}
use Rattle.doc_api.specs.declared.place.Step.{Step}
use Rattle.line_proto.specs.Reading.{steps_from}
use Rattle.replica_c.specs.Places.{place_start}
use Rattle.replica_c.proofs.Paths.{part_Ok, part_Err, place_items-by}
use Rattle.replica_c.proofs.place.read_place_items.Goals as goal

pub returns-in_err-start-in-len1-up : goal.returns-in_err-start-in-len1-up
returns-in_err-start-in-len1-up c =
    let exit = err_from_is_err_and c.from_residual.result c.from_residual.ensures.1 in
    let vs = c.args.items.now in
    let first = c.first-item.result in
    let found : Option (List Step) = steps_from (items_view (take (length vs - 1) (drop 1 vs))) in
    rw (exit.1, exit.2)
    (λ other.
    let start = part_Err (place_start (view first)) c.read_start.result c.in_err-start-in-len1-up.field-0.0 c.read_start.ensures c.in_err-start-in-len1-up.was (λ memory. other (ap Err memory)) in
    rw (start.1)
    (ap (λ (o : Option Place). ok_or o BadRequest) (sym (place_items-by vs first c.in-len1-up.len_at_least c.first-item.is None found start.0 refl))))

pub returns-in_err-steps-in-len1-up : goal.returns-in_err-steps-in-len1-up
returns-in_err-steps-in-len1-up c =
    let exit = err_from_is_err_and c.from_residual-in_err-steps-in-len1-up.result c.from_residual-in_err-steps-in-len1-up.ensures.1 in
    let vs = c.args.items.now in
    let first = c.first-item.result in
    let start = part_Ok (place_start (view first)) c.read_start.result c.in_ok-start-in-len1-up.start c.read_start.ensures c.in_ok-start-in-len1-up.was in
    rw (exit.1, exit.2)
    (λ other.
    let steps = part_Err (steps_from (items_view (take (length vs - 1) (drop 1 vs)))) c.read_steps.result c.in_err-steps-in-len1-up.field-0.0 c.read_steps.ensures c.in_err-steps-in-len1-up.was (λ memory. other (ap Err memory)) in
    rw (steps.1)
    (ap (λ (o : Option Place). ok_or o BadRequest)
    (sym (place_items-by vs first c.in-len1-up.len_at_least c.first-item.is (Some c.in_ok-start-in-len1-up.start) None start steps.0))))

pub returns-in_ok-steps-in-len1-up : goal.returns-in_ok-steps-in-len1-up
returns-in_ok-steps-in-len1-up c = λ other.
    let vs = c.args.items.now in
    let first = c.first-item.result in
    let start = part_Ok (place_start (view first)) c.read_start.result c.in_ok-start-in-len1-up.start c.read_start.ensures c.in_ok-start-in-len1-up.was in
    let steps = part_Ok (steps_from (items_view (take (length vs - 1) (drop 1 vs)))) c.read_steps.result c.in_ok-steps-in-len1-up.steps c.read_steps.ensures c.in_ok-steps-in-len1-up.was in
    ap (λ (o : Option Place). ok_or o BadRequest)
    (sym (place_items-by vs first c.in-len1-up.len_at_least c.first-item.is (Some c.in_ok-start-in-len1-up.start) (Some c.in_ok-steps-in-len1-up.steps) start steps))
