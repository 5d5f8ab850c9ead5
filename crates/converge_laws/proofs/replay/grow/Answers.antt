use Rattle.std.proofs.Common.{sym, subst, Contains}
use Rattle.std.specs.Option.{ForSome}
use Rattle.crdt_rules.specs.Context.{reference}
use Rattle.crdt_rules.specs.Effect.{path_of}
use Rattle.crdt_rules.proofs.NextStep.{reference_stands, id_is_new}
use Rattle.doc_rules.proofs.Roles.{are_of_same, are_of_next}
use Rattle.converge_laws.proofs.replay.grow.Goals as goal

pub commit-requires-clause-reference : goal.commit-requires-clause-reference
commit-requires-clause-reference c =
    let op = c.args.op.now in
    λ insertion.
    subst (λ f. ForSome (reference op.cursor.key) (Contains (f.order (path_of op)))) (sym (are_of_same c.requires.same c.in_ok-prepare.ensures.facts c.in_ok-prepare.ensures.roles).facts_are)
    (reference_stands c.args.before.now c.requires.good op c.requires.fits insertion)

pub commit-requires-clause-new : goal.commit-requires-clause-new
commit-requires-clause-new c =
    let op = c.args.op.now in
    λ insertion.
    subst (λ f. ¬ (Contains (f.order (path_of op)) op.id)) (sym (are_of_same c.requires.same c.in_ok-prepare.ensures.facts c.in_ok-prepare.ensures.roles).facts_are)
    (id_is_new c.args.before.now c.requires.good op c.requires.fits insertion)

pub returns-clause-ok : goal.returns-clause-ok
returns-clause-ok c =
    are_of_next (are_of_same c.requires.same c.in_ok-prepare.ensures.facts c.in_ok-prepare.ensures.roles) c.args.op.now
    c.requires.good c.requires.fits c.commit.ensures.facts c.commit.ensures.roles
