use Rattle.std.proofs.Common.{sym}
use Rattle.line_proto.proofs.Lines.{doc_request_items-many}
use Rattle.line_proto.proofs.parse.read_doc_request.Goals as goal

pub returns-in-len3-up : goal.returns-in-len3-up
returns-in-len3-up c = λ _. sym (doc_request_items-many c.args.verb.now c.args.items.now c.in-len3-up.len_at_least)
