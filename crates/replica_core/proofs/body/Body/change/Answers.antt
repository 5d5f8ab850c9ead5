use Rattle.std.proofs.Common.{inl, refl, sym}
use Rattle.replica_core.specs.Whole.{replica_with}
use Rattle.replica_core.proofs.Meeting.{meets_as}
use Rattle.replica_core.proofs.body.Body.change.Goals as goal

pub log_own-requires-clause-unopposed : goal.log_own-requires-clause-unopposed
log_own-requires-clause-unopposed c = c.in-Ok-own_cause.ensures

pub returns-in-Ok-own_cause : goal.returns-in-Ok-own_cause
returns-in-Ok-own_cause c =
    let r = replica_with c.args.name c.args.self.now in
    rw c.in-Ok.is (meets_as r _ _ _ _ (sym c.in-Ok-own_cause.ensures) c.log_own.ensures)

pub returns-in-Err-own_cause : goal.returns-in-Err-own_cause
returns-in-Err-own_cause c =
    let r = replica_with c.args.name c.args.self.now in
    rw c.in-Ok.is (meets_as r _ _ _ r (sym c.in-Err-own_cause.ensures) (inl (refl, refl)))
