use Rattle.std.proofs.Common.{◌∙◌}
use Rattle.op_log.proofs.Indexes.{found_logged}
use Rattle.hold_buffer.proofs.buffer.HoldBuffer.contains.Goals as goal

pub returns : goal.returns
returns c = c.is_some.ensures ∙ found_logged c.args.self.now.held c.args.id c.get.result c.get.ensures.found
