use Rattle.std.proofs.Common.{◌≡◌, ◌≤◌, false, length, slice_range, ◌-◌}
use Rattle.std.specs.Io.KnownBytes.{Appends}
use Rattle.line_feed.specs.Covered.{StaysCovered}
use Rattle.line_feed.proofs.outbox.send.Given as goal

-- the sink works, and has taken what is counted
abbrev pub invariant-loop-sent : goal.invariant-loop-sent
invariant-loop-sent g l =
    let contents = g.W.Sink.contents in
    record {
      works : g.W.Sink.has_failed l.sink ≡ false;
      covered : StaysCovered (g.W.Sink.covers l.fn.sink) (g.W.Sink.covers l.sink);
      from : l.fn.sent ≤ l.sent;
      to : l.sent ≤ length l.bytes;
      taken : Appends (contents l.fn.sink) (contents l.sink) (slice_range l.bytes l.fn.sent l.sent);
    }

abbrev pub decreases-loop-sent : goal.decreases-loop-sent
decreases-loop-sent g l = length l.bytes - l.sent
