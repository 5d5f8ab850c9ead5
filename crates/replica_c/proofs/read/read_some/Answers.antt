use Rattle.std.proofs.Common.{sym, ◌∙◌}
use Rattle.replica_c.proofs.Paths.{some_read}
use Rattle.replica_c.proofs.read.read_some.Goals as goal

pub returns-in-len1-up : goal.returns-in-len1-up
returns-in-len1-up c = λ other. c.read_each.ensures other ∙ sym (some_read c.args.items.now c.in-len1-up.len_at_least)
