use Rattle.std.proofs.Common.{sym, subst}
use Rattle.presence_set.specs.ById.{IsAscending}
use Rattle.presence_set.proofs.BlockLaws.{rising-take, rising-drop}
use Rattle.presence_set.proofs.ById.split_off.Goals as goal

pub invariant_of-result : goal.invariant_of-result
invariant_of-result g c = subst IsAscending (sym c.in_ok-split_off.ensures.high) (rising-drop c.args.at _ c.self.invariant)

pub invariant_of-self-2 : goal.invariant_of-self-2
invariant_of-self-2 g c = subst IsAscending (sym c.in_ok-split_off.ensures.low) (rising-take c.args.at _ c.self.invariant)
