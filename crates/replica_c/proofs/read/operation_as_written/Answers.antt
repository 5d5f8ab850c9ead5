use Rattle.std.proofs.Common.{ap, ok_or}
use Rattle.json_scalar.specs.Refusal.{and_then}
use Rattle.json_scalar.specs.declared.refusal.Refusal.TheVariants.{NotJson}
use Rattle.op_core.specs.Reading.{op_from}
use Rattle.op_core.proofs.Operations.{ReadsOp-from_answer}
use Rattle.line_proto.specs.Reading.{line_data}
use Rattle.replica_c.specs.Asking.{op_of_line}
use Rattle.replica_c.proofs.Written.{never_memory}
use Rattle.replica_c.proofs.read.operation_as_written.Goals as goal

pub returns-clause-reads : goal.returns-clause-reads
returns-clause-reads c line d is =
    ReadsOp-from_answer d (op_of_line line) (λ _. ap (λ found. and_then (ok_or found NotJson) op_from) is)

pub returns-clause-no_json : goal.returns-clause-no_json
returns-clause-no_json c line is = ap (λ found. and_then (ok_or found NotJson) op_from) is

pub returns-clause-sure : goal.returns-clause-sure
returns-clause-sure c line is = never_memory (line_data line) is
