use Rattle.std.proofs.Common.{List, ℕ, subst, ◌∙◌}
use Rattle.std.specs.Io.KnownBytes.{Appends}
use Rattle.line_feed.specs.Cut.{AppendsCut}
use Rattle.line_proto.specs.Replies.{reply_line}
use Rattle.session_rules.specs.Session.{MayAnswerLine}
use Rattle.session_core.specs.OpenDocuments.{access_of}
use Rattle.session_core.specs.Serving.{state_of}
use Rattle.session_core.proofs.Fallback.{answers_written, bye_written}
use Rattle.session_core.proofs.run.Talk.answer_line.Goals as goal

pub returns-in-Ok-clause-ok : goal.returns-in-Ok-clause-ok
returns-in-Ok-clause-ok g c = λ names same.
    let old = state_of g.A.DocAccess c.args.self.now.access.now c.args.self.now.session.now.opened.items in
    let new = state_of g.A.DocAccess c.reply_to-response.new.self.access.now c.reply_to-response.new.self.session.now.opened.items in
    let (out, may, appended) = c.in-Ok.ensures.ok in (
      out,
      c.is_bye-bye.ensures ∙ bye_written c.reply_to-response.result out may,
      answers_written (access_of names g.A.DocAccess.opens g.A.DocAccess.acts g.A.DocAccess.reads) g.met.A.DocAccess.acts_short old new c.args.line.now.bytes.now
          c.reply_to-response.result out
          (subst (λ (n : List (List ℕ)). MayAnswerLine (access_of n g.A.DocAccess.opens g.A.DocAccess.acts g.A.DocAccess.reads) old c.args.line.now.bytes.now c.reply_to-response.result new) same
          c.reply_to-response.ensures.answers)
          may,
      subst (λ bytes. Appends bytes (g.W.Sink.contents c.write_and_flush.new.sink) (reply_line out)) c.reply_to-response.ensures.bytes appended,
    )

pub returns-clause-cut : goal.returns-clause-cut
returns-clause-cut g c = λ names same.
    let old = state_of g.A.DocAccess c.args.self.now.access.now c.args.self.now.session.now.opened.items in
    let new = state_of g.A.DocAccess c.reply_to-response.new.self.access.now c.reply_to-response.new.self.session.now.opened.items in
    let (out, may, cut) = c.in-Err.ensures.cut in (
      out,
      answers_written (access_of names g.A.DocAccess.opens g.A.DocAccess.acts g.A.DocAccess.reads) g.met.A.DocAccess.acts_short old new c.args.line.now.bytes.now
          c.reply_to-response.result out
          (subst (λ (n : List (List ℕ)). MayAnswerLine (access_of n g.A.DocAccess.opens g.A.DocAccess.acts g.A.DocAccess.reads) old c.args.line.now.bytes.now c.reply_to-response.result new) same
          c.reply_to-response.ensures.answers)
          may,
      subst (λ bytes. AppendsCut bytes (g.W.Sink.contents c.write_and_flush.new.sink) (reply_line out)) c.reply_to-response.ensures.bytes cut,
    )
