use Rattle.std.proofs.Common.{List, ap, subst}
use Rattle.op_core.specs.Op.{Op}
use Rattle.op_log.specs.Index.{CoversBetween}
use Rattle.op_log.proofs.log.OpLog.covered_before.Goals as goal

pub returns : goal.returns
returns c =
    subst (λ (l : List Op). CoversBetween c.args.front.now l 0 c.covered_before.result) (ap (λ l. l.operations) c.self.view_is) (rw c.deref.ensures.value at c.covered_before.ensures)
