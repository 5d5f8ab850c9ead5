use Rattle.std.proofs.Common.{subst}
use Rattle.doc_api.specs.declared.ask.Command.TheVariants as command
use Rattle.crdt_rules.specs.Facts.{facts}
use Rattle.crdt_rules.specs.Log.{replay}
use Rattle.doc_rules.specs.Resolve.{Resolves}
use Rattle.replica_core.specs.Outcomes.{reply_of_applied}
use Rattle.replica_core.specs.Whole.{replica_with}
use Rattle.replica_core.proofs.Keeping.{whole_next}
use Rattle.replica_core.proofs.Owning.{event_change}
use Rattle.replica_core.proofs.replica.Replica.local.Goals as goal

pub change-requires-clause-place : goal.change-requires-clause-place
change-requires-clause-place c other = (
  c.args.place.start,
  c.as_slice.result.now,
  subst (λ f. Resolves f c.args.place.start c.as_slice.result.now c.resolve-resolved.result) c.tree.ensures.agrees.facts_are (c.resolve-resolved.ensures other),
)

pub invariant_of-self : goal.invariant_of-self
invariant_of-self c =
    whole_next c.self.inside.name c.self.inside.body c.change.new.self (command.Change c.args.place c.args.mutation) (reply_of_applied c.change.result) c.self.invariant
    c.keeps_limits.ensures
    (event_change (replica_with c.self.inside.name c.self.inside.body) (replica_with c.self.inside.name c.change.new.self) c.args.place c.args.mutation
    (reply_of_applied c.change.result) c.resolve-resolved.result
    (λ other. subst (λ l. Resolves (facts (replay c.self.inside.body.log)) c.args.place.start l c.resolve-resolved.result) c.as_slice.ensures
    (subst (λ f. Resolves f c.args.place.start c.as_slice.result.now c.resolve-resolved.result) c.tree.ensures.agrees.facts_are (c.resolve-resolved.ensures other)))
    c.change.ensures)

pub returns : goal.returns
returns c =
    rw (← c.self.view_is)
    (event_change (replica_with c.self.inside.name c.self.inside.body) (replica_with c.self.inside.name c.change.new.self) c.args.place c.args.mutation
    (reply_of_applied c.change.result) c.resolve-resolved.result
    (λ other. subst (λ l. Resolves (facts (replay c.self.inside.body.log)) c.args.place.start l c.resolve-resolved.result) c.as_slice.ensures
    (subst (λ f. Resolves f c.args.place.start c.as_slice.result.now c.resolve-resolved.result) c.tree.ensures.agrees.facts_are (c.resolve-resolved.ensures other)))
    c.change.ensures)
