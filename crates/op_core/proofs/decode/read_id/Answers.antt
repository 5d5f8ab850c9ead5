use Rattle.std.proofs.Common.{sym}
use Rattle.serde_json.specs.View.{view}
use Rattle.op_core.proofs.Wires.{ReadsId-from_answer}
use Rattle.op_core.proofs.decode.read_id.Goals as goal

pub returns-clause-reads : goal.returns-clause-reads
returns-clause-reads c = ReadsId-from_answer (view c.args.value.now) c.id_of_json.result (sym c.id_of_json.ensures)
