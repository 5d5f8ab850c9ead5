use Rattle.line_proto.proofs.Texts.{in_quotes}
use Rattle.line_proto.proofs.stack_line.put_word.Goals as goal

pub returns-clause-bytes : goal.returns-clause-bytes
returns-clause-bytes c =
    rw (c.push_str-3.ensures.bytes, c.push_str-2.ensures.bytes, c.push_str.ensures.bytes) (in_quotes c.args.line.now.bytes c.args.word.now c.requires.name)
