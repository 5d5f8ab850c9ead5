use Rattle.std.proofs.Common.{◌≡◌, ◌<◌, List, length, Some, None, ap, subst}
use Rattle.std.specs.Prelude.{MatchOption, IfSome}
use Rattle.std.specs.List.{slice_get}
use Rattle.doc_rules.specs.Replica.{find_id}
use Rattle.op_core.specs.Op.{Op}
use Rattle.op_log.proofs.log.OpLog.position_of.Goals as goal

pub returns-clause-within : goal.returns-clause-within
returns-clause-within c =
    subst (λ (l : List Op). IfSome c.position_of.result (λ k. k < length l)) (ap (λ l. l.operations) c.self.view_is) (rw c.deref.ensures.value at c.position_of.ensures.within)

pub returns-clause-found : goal.returns-clause-found
returns-clause-found c =
    let id = c.args.id in
    subst (λ (l : List Op). MatchOption c.position_of.result (find_id l id ≡ None) (λ k. (op : Op) × (slice_get l k ≡ Some op) × (find_id l id ≡ Some op)))
    (ap (λ l. l.operations) c.self.view_is)
    (rw c.deref.ensures.value at c.position_of.ensures.found)
