use Rattle.std.proofs.Common.{codes, decimal}
use Rattle.json.specs.Print.{escape_byte, quoted}
use Rattle.line_proto.proofs.Texts.{two_parts}
use Rattle.line_proto.proofs.stack_line.refused.Goals as goal

pub returns : goal.returns
unfolding escape_byte
returns c =
    rw (
      c.push_str-3.ensures.bytes,
      c.put_word.ensures.bytes,
      c.push_str-2.ensures.bytes,
      c.put_number.ensures.bytes,
      c.push_str.ensures.bytes,
      c.new-line.ensures,
    )
    (two_parts (codes "[\"no\",") (decimal c.args.number) (quoted c.args.name.now))
