use Rattle.std.proofs.Common.{arith, take, length-take-le}
use Rattle.line_feed.proofs.Taken.{taken-grows, right_false}
use Rattle.line_feed.proofs.sink.WriterSink.write_some.Goals as goal

pub returns-in-Ok-clause-bytes : goal.returns-in-Ok-clause-bytes
returns-in-Ok-clause-bytes g c =
    taken-grows (g.W.Write.contents c.args.self.now.writer) (g.W.Write.contents c.write.new.self) (take c.in-Ok.n c.args.bytes.now) c.args.self.now.is_dirty
    c.args.self.now.flush_failed (right_false _ _ c.requires.works)
    (omega (arith, c.if-n-gt0.true, c.in-Ok.ensures.bound, length-take-le c.in-Ok.n c.args.bytes.now)) c.in-Ok.ensures.bytes

pub returns-in-Ok-clause-at_least : goal.returns-in-Ok-clause-at_least
returns-in-Ok-clause-at_least g c = omega arith
