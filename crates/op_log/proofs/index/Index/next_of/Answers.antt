use Rattle.std.proofs.Common.{sym, subst}
use Rattle.op_log.specs.Index.{IsLast}
use Rattle.op_log.proofs.Chained.{none_made}
use Rattle.op_log.proofs.index.Index.next_of.Goals as goal

pub next_up_to-requires-clause-end : goal.next_up_to-requires-clause-end
next_up_to-requires-clause-end c =
    (c.args.name.now, subst (IsLast c.args.entries.now c.args.name.now) (sym c.number.ensures) (c.requires.index.lasts.each c.args.name.now c.in-Some.end (sym c.in-Some.ensures)))

pub returns-in-Some : goal.returns-in-Some
returns-in-Some c =
    c.next_up_to.ensures c.args.name.now (subst (IsLast c.args.entries.now c.args.name.now) (sym c.number.ensures) (c.requires.index.lasts.each c.args.name.now c.in-Some.end (sym c.in-Some.ensures)))

pub returns-in-None : goal.returns-in-None
returns-in-None c = none_made c.args.name.now c.args.above c.args.last c.args.entries.now (c.requires.index.lasts.none c.args.name.now (sym c.in-None.ensures))
