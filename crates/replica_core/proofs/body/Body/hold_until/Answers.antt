use Rattle.std.proofs.Common.{inl, inr, ap}
use Rattle.doc_api.specs.declared.reply.Reply.TheVariants as reply
use Rattle.replica_core.specs.Whole.{replica_with}
use Rattle.replica_core.proofs.body.Body.hold_until.Goals as goal

pub returns-in-Ok : goal.returns-in-Ok
returns-in-Ok c name = inl (ap reply.Held c.requires.missed, ap (replica_with name) c.in-Ok.ensures.ok)

pub returns-in-Err : goal.returns-in-Err
returns-in-Err c name = inr (tt, (ap reply.Refused c.in-Err.ensures.err, ap (replica_with name) c.in-Err.ensures.same))
