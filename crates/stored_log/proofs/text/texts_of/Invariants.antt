use Rattle.std.proofs.Common.{◌≡◌, map, take, string_bytes}
use Rattle.stored_log.specs.Docs.{op_text}
use Rattle.stored_log.proofs.text.texts_of.Given as goal

abbrev pub invariant-loop-op : goal.invariant-loop-op
invariant-loop-op l = map string_bytes l.texts.items ≡ map op_text (take l.op-index l.ops)
