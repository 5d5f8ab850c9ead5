use Rattle.replica_c.proofs.Opening.{not_memory}
use Rattle.replica_c.proofs.open.is_memory.Goals as goal

pub returns : goal.returns
returns c = not_memory c.number.result c.args.cause.now c.number.ensures
