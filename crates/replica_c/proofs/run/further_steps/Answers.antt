use Rattle.std.proofs.Common.{◌∙◌, sym, ap, length, arith}
use Rattle.replica_c.proofs.Running.{further_none, further_pushed}
use Rattle.replica_c.proofs.run.further_steps.Goals as goal

pub returns-in-Some-clause-ok : goal.returns-in-Some-clause-ok
returns-in-Some-clause-ok c =
    further_pushed (λ v. v.items) c.pushed.result c.args.more c.pop.new.self.items c.args.steps.now c.in-Some.last
    (sym c.in_ok-copy.ensures.ok ∙ c.in-Some.ensures.items)
    (rw (sym c.further.ensures) c.pushed.ensures.ok)

pub returns-in-None-clause-ok : goal.returns-in-None-clause-ok
returns-in-None-clause-ok c =
    further_none c.args.more c.in_ok-copy.copy.items c.pop.new.self.items c.args.steps.now c.in_ok-copy.ensures.ok c.in-None.ensures.items
    (omega (arith, c.in_ok-copy.copy.ok.0, c.in-None.ensures.cases.0))
