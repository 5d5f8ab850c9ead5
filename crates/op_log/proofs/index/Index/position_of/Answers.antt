use Rattle.std.proofs.Common.{sym, subst}
use Rattle.op_log.specs.Index.{IsLast}
use Rattle.op_log.proofs.Growing.{none_of_replica}
use Rattle.op_log.proofs.index.Index.position_of.Goals as goal

pub position_from-requires-clause-last : goal.position_from-requires-clause-last
position_from-requires-clause-last c =
    subst (IsLast c.args.entries.now c.args.id.now.replica) (sym c.number.ensures) (c.requires.index.lasts.each c.args.id.now.replica c.in-Some.last (sym c.in-Some.ensures))

pub returns-in-None-clause-found : goal.returns-in-None-clause-found
returns-in-None-clause-found c = none_of_replica c.requires.index.lasts c.args.id.now (sym c.in-None.ensures)
