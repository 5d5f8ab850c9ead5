use Rattle.std.proofs.Common.{inl, sym, ◌∙◌}
use Rattle.doc_api.specs.declared.ask.Command.TheVariants as command
use Rattle.doc_rules.specs.Events.{Does}
use Rattle.replica_core.specs.Outcomes.{reply_of_forgotten}
use Rattle.replica_core.specs.Whole.{replica_with}
use Rattle.replica_core.proofs.Keeping.{whole_next}
use Rattle.replica_core.proofs.Owning.{forgets_held, forgets_none}
use Rattle.replica_core.proofs.replica.Replica.forget.Goals as goal
use Rattle.replica_core.proofs.replica.Replica.forget.Goals.{in-Some, in-None}

does : (c : goal.Joined-remove)
    → Does (replica_with c.self.inside.name c.self.inside.body) (command.Forget c.args.id) (reply_of_forgotten c.match-remove.result)
    (replica_with c.self.inside.name c.remove.new.self)
does c =
    elim c.match-remove.branch [
      | in-Some w ↦ forgets_held c.self.inside.name c.self.inside.body c.remove.new.self c.args.id w.in-Some.op c.match-remove.result w.result-is
          (sym w.in-Some.is ∙ c.remove.ensures.value) c.remove.ensures.rest
      | in-None w ↦ forgets_none c.self.inside.name c.self.inside.body c.remove.new.self c.args.id c.match-remove.result w.result-is
          (sym w.in-None.is ∙ c.remove.ensures.value) c.remove.ensures.rest
    ]

pub invariant_of-self : goal.invariant_of-self
invariant_of-self c =
    whole_next c.self.inside.name c.self.inside.body c.remove.new.self (command.Forget c.args.id) (reply_of_forgotten c.match-remove.result) c.self.invariant tt (inl (does c))

pub returns : goal.returns
returns c = rw (← c.self.view_is) (does c)
