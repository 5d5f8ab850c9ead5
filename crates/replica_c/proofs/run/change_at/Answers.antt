use Rattle.replica_c.proofs.Running.{applied_frees}
use Rattle.replica_c.proofs.run.change_at.Goals as goal

pub returns-in-Ok-clause-few : goal.returns-in-Ok-clause-few
returns-in-Ok-clause-few c = applied_frees c.args.replica.now c.local.new.self c.in-Ok.place c.args.mutation c.local.result c.local.ensures
