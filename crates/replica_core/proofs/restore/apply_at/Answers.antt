use Rattle.std.proofs.Common.{sym, subst}
use Rattle.doc_rules.proofs.Roles.{are_of_same, are_of_next}
use Rattle.replica_core.specs.AgreesWith.{AgreesWith}
use Rattle.replica_core.proofs.Applying.{step_at}
use Rattle.replica_core.proofs.Knowing.{knows_reference, is_new_element}
use Rattle.replica_core.proofs.restore.apply_at.Goals as goal

pub commit-requires-clause-reference : goal.commit-requires-clause-reference
commit-requires-clause-reference c =
    let step = step_at c.args.operations.now c.args.place c.index-operations-place.result c.requires.good c.requires.within c.index-operations-place.is in
    knows_reference c.prepare.new.self (are_of_same c.requires.agrees c.prepare.ensures.facts c.prepare.ensures.roles) c.index-operations-place.result step.good step.fits

pub commit-requires-clause-new : goal.commit-requires-clause-new
commit-requires-clause-new c =
    let step = step_at c.args.operations.now c.args.place c.index-operations-place.result c.requires.good c.requires.within c.index-operations-place.is in
    is_new_element c.prepare.new.self (are_of_same c.requires.agrees c.prepare.ensures.facts c.prepare.ensures.roles) c.index-operations-place.result step.good step.fits

pub returns-clause-ok : goal.returns-clause-ok
returns-clause-ok c =
    let step = step_at c.args.operations.now c.args.place c.index-operations-place.result c.requires.good c.requires.within c.index-operations-place.is in
    subst (AgreesWith c.commit.new.self) (sym step.next)
    (are_of_next (are_of_same c.requires.agrees c.prepare.ensures.facts c.prepare.ensures.roles) c.index-operations-place.result step.good step.fits c.commit.ensures.facts c.commit.ensures.roles)
