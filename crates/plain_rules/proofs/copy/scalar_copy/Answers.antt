use Rattle.plain_rules.proofs.Copies.{copy_is, copy_memory}
use Rattle.plain_rules.proofs.copy.scalar_copy.Goals as goal

pub returns-clause-done : goal.returns-clause-done
returns-clause-done c = copy_is c.try_clone.result c.args.scalar.now c.try_clone.ensures

pub returns-clause-memory : goal.returns-clause-memory
returns-clause-memory c = copy_memory c.try_clone.result c.args.scalar.now c.try_clone.ensures
