use Rattle.std.proofs.Common.{◌≡◌, ◌⊎◌, ◌<◌, ◌≤◌, ℕ, get_or}
use Rattle.server_core.proofs.owing.tell.Given as goal

-- the counts before this one are covered, and those that were
abbrev pub invariant-loop-number : goal.invariant-loop-number
invariant-loop-number g l =
    record {
      covers : (n : ℕ) → (n < l.number) ⊎ (l.to ≤ n) → g.W.Sink.covers l.sink n (get_or l.counts n 0);
      bytes : g.W.Sink.contents l.sink ≡ g.W.Sink.contents l.fn.sink;
      unflushed : g.W.Sink.unflushed l.sink ≡ g.W.Sink.unflushed l.fn.sink;
      failed : g.W.Sink.has_failed l.sink ≡ g.W.Sink.has_failed l.fn.sink;
    }
