use Rattle.std.proofs.Common.{map}
use Rattle.run_core.specs.Names.{wanted_by}
use Rattle.run_core.proofs.run.run_over.Goals as goal

pub returns-clause-served : goal.returns-clause-served
returns-clause-served g c =
    c.serve.ensures.served (wanted_by c.args.name.now (map (λ s. s.now) c.args.documents.now)) (c.in-Ok.ensures.names, c.in-Ok.ensures.documents)

pub returns-clause-failed : goal.returns-clause-failed
returns-clause-failed g c =
    c.serve.ensures.failed (wanted_by c.args.name.now (map (λ s. s.now) c.args.documents.now)) (c.in-Ok.ensures.names, c.in-Ok.ensures.documents)
