use Rattle.std.proofs.Common.{refl}
use Rattle.json.specs.Print.{escape_byte}
use Rattle.line_proto.proofs.line_reply.LineReply.shown_as_json.Goals as goal

pub returns : goal.returns
unfolding escape_byte
returns c = λ d. refl
