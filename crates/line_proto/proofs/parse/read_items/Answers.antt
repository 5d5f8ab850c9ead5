use Rattle.std.proofs.Common.{◌∙◌}
use Rattle.line_proto.proofs.Lines.{request_items-behind}
use Rattle.line_proto.proofs.parse.read_items.Goals as goal

pub returns-in-len2-up : goal.returns-in-len2-up
returns-in-len2-up c = λ other.
    c.read_named.ensures other
    ∙ request_items-behind c.args.items.now c.verb-item-2.result c.document-item.result c.in-len2-up.len_at_least c.verb-item-2.is c.document-item.is
