use Rattle.std.proofs.Common.{ap, ◌∙◌, ok_or}
use Rattle.json_scalar.specs.Refusal.{and_then}
use Rattle.json_scalar.specs.declared.refusal.Refusal.TheVariants.{NotJson}
use Rattle.replica_c.specs.Asking.{ask_from}
use Rattle.replica_c.proofs.Written.{asks_written, written_line}
use Rattle.replica_c.proofs.ask.Ask.read_as_written.Goals as goal

pub returns-clause-reads : goal.returns-clause-reads
returns-clause-reads c line asked is = written_line line asked is

pub returns-clause-complete : goal.returns-clause-complete
returns-clause-complete c line d asked is written =
    ap (λ found. and_then (ok_or found NotJson) ask_from) is ∙ asks_written d asked written
