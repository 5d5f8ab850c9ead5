use Rattle.std.proofs.Common.{◌≡◌, ◌++◌, false, List, ℕ, map}
use Rattle.serde_json.specs.View.{items_of}
use Rattle.serde_json.specs.Written.{items_text}
use Rattle.line_feed.specs.Covered.{StaysCovered}
use Rattle.line_proto.specs.Replies.{waiting_data}
use Rattle.line_proto.specs.Writing.{WritesText}
use Rattle.line_proto.proofs.Pieces.{rest_from}
use Rattle.line_proto.proofs.pending.put_all_waiting.Given as goal

-- the sink works, and what was put so far and the items that are left are all of them
abbrev pub invariant-loop-i : goal.invariant-loop-i
invariant-loop-i g l =
    let contents = g.W.Sink.contents in
    record {
      works : g.W.Sink.has_failed l.sink ≡ false;
      covered : StaysCovered (g.W.Sink.covers l.fn.sink) (g.W.Sink.covers l.sink);
      so_far : (done : List ℕ) × WritesText (contents l.fn.sink) (contents l.sink) l.fn.piece.bytes l.piece.bytes done
          × (items_text false (items_of (map waiting_data l.waiting)) ≡ done ++ rest_from waiting_data l.waiting l.i);
    }
