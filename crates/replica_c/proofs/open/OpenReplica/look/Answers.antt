use Rattle.std.proofs.Common.{inr, refl}
use Rattle.doc_api.specs.Words.{NoMemory}
use Rattle.doc_api.specs.declared.reply.Reply.TheVariants.{Refused}
use Rattle.replica_c.proofs.open.OpenReplica.look.Goals as goal

pub returns-else-tell-clause-told : goal.returns-else-tell-clause-told
returns-else-tell-clause-told c = (Refused NoMemory, inr refl, c.tell-else-tell.ensures.told)
