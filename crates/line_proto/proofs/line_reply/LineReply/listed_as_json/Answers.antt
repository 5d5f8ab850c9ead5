use Rattle.std.proofs.Common.{refl}
use Rattle.json.specs.Print.{escape_byte}
use Rattle.line_proto.proofs.line_reply.LineReply.listed_as_json.Goals as goal

pub returns-clause-keys : goal.returns-clause-keys
unfolding escape_byte
returns-clause-keys c = λ d. refl

pub returns-clause-items : goal.returns-clause-items
unfolding escape_byte
returns-clause-items c = λ d. refl

pub returns-clause-conflicts : goal.returns-clause-conflicts
unfolding escape_byte
returns-clause-conflicts c = λ d. refl

pub returns-clause-ops : goal.returns-clause-ops
unfolding escape_byte
returns-clause-ops c = λ d. refl

pub returns-clause-chains : goal.returns-clause-chains
unfolding escape_byte
returns-clause-chains c = λ d. refl
