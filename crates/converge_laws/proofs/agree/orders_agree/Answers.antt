use Rattle.std.proofs.Common.{◌≡◌, ◌↔◌, subst}
use Rattle.std.specs.Prelude.{IfOk, IsTrue}
use Rattle.converge_laws.specs.Replayed.{Agree}
use Rattle.converge_laws.proofs.Sets.{agree_facts}
use Rattle.converge_laws.proofs.agree.orders_agree.Goals as goal

pub returns-in-Some-clause-facts : goal.returns-in-Some-clause-facts
returns-in-Some-clause-facts c =
    let is : c.in-Some.log.operations ≡ c.args.ops.now = rw c.in-Some.is at c.in_ok-log.ensures.ok in
    agree_facts c.args.ops.now c.args.others.now c.agrees_with.result
    (subst (λ l. IfOk c.agrees_with.result (λ b. IsTrue b ↔ Agree l c.args.others.now)) is c.agrees_with.ensures.agree)
