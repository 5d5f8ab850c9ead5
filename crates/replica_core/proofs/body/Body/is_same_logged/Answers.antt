use Rattle.std.proofs.Common.{Some, List, ap, ◌∙◌}
use Rattle.std.specs.Option.{option_map}
use Rattle.op_core.specs.Equality.{operation_eq}
use Rattle.doc_api.specs.Words.{Id, Op}
use Rattle.doc_rules.specs.Replica.{find_id}
use Rattle.replica_core.proofs.body.Body.is_same_logged.Goals as goal

pub returns-in-Some : goal.returns-in-Some
returns-in-Some c =
    ap Some c.eq.ensures.value
    ∙ ap (option_map (λ (o : Op). operation_eq o c.args.op.now))
    (c.in-Some.ensures.found ∙ ap (λ (i : Id). find_id c.log.result.now.operations i) c.id.ensures.value ∙ ap (λ (l : List Op). find_id l c.args.op.now.id) c.log.ensures.log)

pub returns-in-None : goal.returns-in-None
returns-in-None c =
    ap (option_map (λ (o : Op). operation_eq o c.args.op.now))
    (c.in-None.ensures.found ∙ ap (λ (i : Id). find_id c.log.result.now.operations i) c.id.ensures.value ∙ ap (λ (l : List Op). find_id l c.args.op.now.id) c.log.ensures.log)
