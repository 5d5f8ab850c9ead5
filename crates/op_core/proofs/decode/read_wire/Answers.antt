use Rattle.std.proofs.Common.{ap, ◌∙◌, sym}
use Rattle.serde_json.specs.View.{view}
use Rattle.op_core.specs.Reading.{op_from}
use Rattle.op_core.proofs.Operations.{ReadsOp-from_answer, op_from-wire}
use Rattle.op_core.proofs.decode.read_wire.Goals as goal

pub returns-clause-reads : goal.returns-clause-reads
returns-clause-reads c = ReadsOp-from_answer (view c.args.value.now) c.read_operation.result c.read_operation.ensures

pub returns-clause-complete : goal.returns-clause-complete
returns-clause-complete c = λ op shaped same other. c.read_operation.ensures other ∙ ap op_from (sym same) ∙ op_from-wire op shaped
