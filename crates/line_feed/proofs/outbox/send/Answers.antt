use Rattle.std.proofs.Common.{rules, subst}
use Rattle.std.specs.Io.KnownBytes.{Appends}
use Rattle.std.proofs.KnownBytes.{Appends-trans}
use Rattle.line_feed.proofs.Sending.{slice_grows}
use Rattle.line_feed.proofs.outbox.send.Goals as goal

pub loop-sent-preserved : goal.loop-sent-preserved
loop-sent-preserved g c =
    let before = c.loop-sent.invariant in
    let bytes = c.args.bytes.now in
    record {
      works = search rules;
      covered = λ n count before. c.in_ok-sent.ensures.covered n count (c.loop-sent.invariant.covered n count before);
      from = search rules;
      to = search rules;
      taken = subst (Appends (g.W.Sink.contents c.args.sink.now) (g.W.Sink.contents c.write_some.new.self))
          (slice_grows bytes c.args.sent.now c.loop-sent.sent c.in_ok-sent.field-0 before.from (search rules))
          (Appends-trans _ _ _ _ _ before.taken c.in_ok-sent.ensures.bytes);
    }
