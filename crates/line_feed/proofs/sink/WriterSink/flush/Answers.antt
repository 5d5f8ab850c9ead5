use Rattle.line_feed.proofs.Taken.{taken-loses, right_false}
use Rattle.line_feed.proofs.sink.WriterSink.flush.Goals as goal

pub returns-then-is_err-clause-lost : goal.returns-then-is_err-clause-lost
returns-then-is_err-clause-lost g c =
    taken-loses (g.W.Write.contents c.args.self.now.writer) (g.W.Write.contents c.flush.new.self) c.args.self.now.is_dirty c.args.self.now.flush_failed
    c.if-self.true (right_false _ _ c.requires.works) c.flush.ensures.bytes
