use Rattle.serde_json.specs.View.{view}
use Rattle.op_core.proofs.Wires.{ReadsFront-from_answer}
use Rattle.op_core.proofs.decode.read_front.Goals as goal

pub returns-clause-reads : goal.returns-clause-reads
returns-clause-reads c = ReadsFront-from_answer (view c.args.value.now) c.read_entries.result c.read_entries.ensures
