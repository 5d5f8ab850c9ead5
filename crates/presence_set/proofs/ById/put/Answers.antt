use Rattle.std.proofs.Common.{sym, subst}
use Rattle.presence_set.specs.ById.{IsAscending}
use Rattle.presence_set.proofs.Ascending.{put_ascending}
use Rattle.presence_set.proofs.ById.put.Goals as goal

pub invariant_of-self : goal.invariant_of-self
invariant_of-self g c = subst IsAscending (sym c.put_listed.ensures.items) (put_ascending _ c.args.id c.args.value c.self.invariant)
