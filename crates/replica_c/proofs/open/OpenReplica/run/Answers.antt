use Rattle.std.proofs.Common.{[], inr, refl}
use Rattle.doc_api.specs.Words.{NoMemory}
use Rattle.doc_api.specs.declared.reply.Reply.TheVariants.{Refused}
use Rattle.line_proto.specs.Replies.{reply_line}
use Rattle.line_proto.specs.declared.line_reply.LineReply.TheVariants.{Answered}
use Rattle.replica_c.proofs.Telling.{told_alone}
use Rattle.replica_c.proofs.open.OpenReplica.run.Goals as goal

pub returns-in_default : goal.returns-in_default
returns-in_default c = (
  Refused NoMemory,
  [],
  inr (refl, refl, c.tell.ensures.replica),
  told_alone c.tell.result (reply_line (Answered (Refused NoMemory))) c.tell.new.self.text.items c.tell.ensures.told,
)
