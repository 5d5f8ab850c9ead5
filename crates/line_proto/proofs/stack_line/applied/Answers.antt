use Rattle.std.proofs.Common.{codes, decimal}
use Rattle.json.specs.Print.{escape_byte}
use Rattle.serde_json.specs.Written.{compact_text}
use Rattle.op_core.specs.Wire.{id_data}
use Rattle.line_proto.proofs.Texts.{three_parts}
use Rattle.line_proto.proofs.stack_line.applied.Goals as goal

pub returns : goal.returns
unfolding escape_byte
returns c =
    rw (
      c.push_str-4.ensures.bytes,
      c.put_id.ensures.bytes,
      c.push_str-3.ensures.bytes,
      c.put_number-2.ensures.bytes,
      c.push_str-2.ensures.bytes,
      c.put_number.ensures.bytes,
      c.push_str.ensures.bytes,
      c.new-line.ensures,
    )
    (three_parts (codes "[\"applied\",") (decimal c.args.count) (decimal c.args.dropped) (compact_text (id_data c.args.id.now)))
