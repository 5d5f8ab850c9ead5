use Rattle.std.proofs.lemmas.Result.{on_err_weaker}
use Rattle.line_feed.proofs.Sending.{cut_by_loss}
use Rattle.line_proto.specs.Replies.{reply_line}
use Rattle.session_rules.specs.Session.{refused}
use Rattle.session_core.proofs.Fallback.{line_not_empty}
use Rattle.session_core.proofs.run.refuse.Goals as goal

pub returns-in-Ok-clause-cut : goal.returns-in-Ok-clause-cut
returns-in-Ok-clause-cut g c =
    on_err_weaker c.flush.result
    (λ loses. cut_by_loss (g.W.Sink.contents c.args.sink.now) (g.W.Sink.contents c.write_refusal.new.sink) _ (reply_line (refused c.args.cause)) c.in-Ok.ensures.ok loses (line_not_empty (refused c.args.cause)))
    c.flush.ensures.lost
