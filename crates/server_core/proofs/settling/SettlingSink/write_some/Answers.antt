use Rattle.std.proofs.Common.{IsTrue, rules}
use Rattle.std.proofs.lemmas.Result.{IfOk-weaker}
use Rattle.server_core.proofs.settling.SettlingSink.write_some.Goals as goal

pub returns-clause-paid : goal.returns-clause-paid
returns-clause-paid g c =
    let yes : IsTrue c.settle.result = search rules in
    IfOk-weaker c.send.result _ _ (λ n some. (c.settle.ensures.shut yes, c.settle.ensures.paid yes)) c.send.ensures.at_least
