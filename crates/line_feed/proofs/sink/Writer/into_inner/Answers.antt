use Rattle.line_feed.proofs.Taken.{taken-whole}
use Rattle.line_feed.proofs.sink.Writer.into_inner.Goals as goal

pub returns-clause-bytes : goal.returns-clause-bytes
returns-clause-bytes g c =
    taken-whole (g.W.Write.contents c.args.self.writer) c.args.self.is_dirty c.args.self.write_failed c.args.self.flush_failed
