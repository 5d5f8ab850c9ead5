use Rattle.std.proofs.Common.{List, ap, subst}
use Rattle.std.specs.Prelude.{IfOk}
use Rattle.op_core.specs.Op.{Op}
use Rattle.op_log.specs.Lacks.{IsNextOfSince}
use Rattle.op_log.proofs.Lacks.{next_of_since}
use Rattle.op_log.proofs.log.OpLog.next_uncovered.Goals as goal

pub returns-clause-ok : goal.returns-clause-ok
returns-clause-ok c =
    let front = c.args.front.now in
    let from = c.args.from in
    subst (λ (l : List Op). IfOk c.next_uncovered.result (IsNextOfSince front l from)) (ap (λ l. l.operations) c.self.view_is)
    (next_of_since front c.self.inside.entries.items from c.next_uncovered.result (rw c.deref.ensures.value at c.next_uncovered.ensures.ok))
