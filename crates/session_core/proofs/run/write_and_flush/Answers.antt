use Rattle.std.proofs.lemmas.Result.{on_err_weaker}
use Rattle.line_feed.proofs.Sending.{cut_by_loss}
use Rattle.line_proto.specs.Replies.{reply_line}
use Rattle.session_core.proofs.Fallback.{line_not_empty}
use Rattle.session_core.proofs.run.write_and_flush.Goals as goal

pub returns-then-waits-clause-cut : goal.returns-then-waits-clause-cut
returns-then-waits-clause-cut g c =
    let (out, may, appended) = c.in-Ok.ensures.ok in
    on_err_weaker c.flush.result
    (λ loses. (out, may, cut_by_loss (g.W.Sink.contents c.args.sink.now) (g.W.Sink.contents c.write_reply.new.sink) _ (reply_line out) appended loses (line_not_empty out))) c.flush.ensures.lost
