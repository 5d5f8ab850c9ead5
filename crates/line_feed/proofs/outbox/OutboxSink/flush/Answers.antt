use Rattle.std.proofs.Common.{length, arith, sym, ap, ◌∙◌}
use Rattle.line_feed.proofs.Sending.{lost_last}
use Rattle.line_feed.proofs.outbox.OutboxSink.flush.Goals as goal

pub returns-in-Err-clause-lost : goal.returns-in-Err-clause-lost
returns-in-Err-clause-lost g c =
    let (same, from, part, appends) = c.in-Err.ensures.err in
    let popped = c.pop-lost.ensures in
    lost_last _ _ c.args.self.now.buffer.items c.pop-lost.new.self.items c.pop-lost.result c.args.self.now.sent c.send_buffer.new.self.sent
    appends from part (sym same ∙ popped.items) (popped.variant.1 (omega (arith, part, ap length same)))
