use Rattle.crdt_rules.proofs.Ascending.{front_of-ascending}
use Rattle.crdt_rules.proofs.front_ascends.Goals as goal

pub returns : goal.returns
returns c = front_of-ascending
