use Rattle.std.proofs.Common.{ap, sym, ◌∙◌, ok_or}
use Rattle.json_scalar.specs.Refusal.{and_then}
use Rattle.json_scalar.specs.declared.refusal.Refusal.TheVariants.{NotJson}
use Rattle.std.specs.Prelude.{Ok}
use Rattle.line_proto.specs.Reading.{request_from}
use Rattle.line_proto.proofs.Found.{reads_line}
use Rattle.line_proto.proofs.Refusing.{request_of-caused}
use Rattle.line_proto.proofs.Requests.{request_from-request_data}
use Rattle.line_proto.proofs.Stated.{line_stated}
use Rattle.line_proto.proofs.request.Request.read_as_written.Goals as goal

-- src/parse.rt:64:5
pub returns-clause-reads : goal.returns-clause-reads
returns-clause-reads c line r is = reads_line line (Ok r) (λ _. sym is)

-- src/parse.rt:64:5
pub returns-clause-complete : goal.returns-clause-complete
returns-clause-complete c line r within form =
    ap (λ found. and_then (ok_or found NotJson) request_from) form ∙ request_from-request_data r within

-- src/parse.rt:64:5
pub returns-clause-refuses : goal.returns-clause-refuses
returns-clause-refuses c line cause is = request_of-caused line cause is

-- src/parse.rt:64:5
pub returns-clause-due : goal.returns-clause-due
returns-clause-due c line cause other stated = line_stated line cause other stated
