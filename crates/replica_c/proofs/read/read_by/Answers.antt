use Rattle.std.proofs.Common.{sym}
use Rattle.replica_c.proofs.Paths.{ask_by-many}
use Rattle.replica_c.proofs.read.read_by.Goals as goal

pub returns-in-len3-up : goal.returns-in-len3-up
returns-in-len3-up c = λ _. sym (ask_by-many c.args.verb.now c.args.items.now c.in-len3-up.len_at_least)
