use Rattle.std.proofs.Common.{codes, decimal}
use Rattle.json.specs.Print.{escape_byte}
use Rattle.line_proto.proofs.Texts.{three_parts}
use Rattle.line_proto.proofs.stack_line.size.Goals as goal

pub returns : goal.returns
unfolding escape_byte
returns c =
    rw (
      c.push_str-4.ensures.bytes,
      c.put_number-3.ensures.bytes,
      c.push_str-3.ensures.bytes,
      c.put_number-2.ensures.bytes,
      c.push_str-2.ensures.bytes,
      c.put_number.ensures.bytes,
      c.push_str.ensures.bytes,
      c.new-line.ensures,
    )
    (three_parts (codes "[\"size\",") (decimal c.args.logged) (decimal c.args.copied) (decimal c.args.replicas))
