use Rattle.std.proofs.Common.{◌≡◌, false, ltb}
use Rattle.served_log.specs.Batches.{AreAdded, AreAddedUpTo}
use Rattle.served_log.specs.Kept.{StaysKept}
use Rattle.served_log.specs.Known.{StaysKnown}
use Rattle.served_log.proofs.batch.copy_each.Given as goal

abbrev pub invariant-loop-doc_index : goal.invariant-loop-doc_index
invariant-loop-doc_index g l = record {
  added : AreAddedUpTo g.M.Marker.origin l.shared.names.items (g.L.StoredLog.log l.fn.stored).docs l.most (g.L.StoredLog.log l.stored).docs;
  any : AreAdded g.M.Marker.origin l.shared.names.items (g.L.StoredLog.log l.fn.stored).docs (ltb 0 l.most) (g.L.StoredLog.log l.stored).docs;
  none : l.most ≡ 0 → (g.L.StoredLog.log l.stored).docs ≡ (g.L.StoredLog.log l.fn.stored).docs;
  known : StaysKnown l.shared.names.items (g.L.StoredLog.log l.fn.stored).docs l.fn.seats (g.L.StoredLog.log l.stored).docs l.seats;
  kept : StaysKept g.L.StoredLog l.fn.stored l.stored;
  epoch : (g.L.StoredLog.log l.stored).epoch ≡ (g.L.StoredLog.log l.fn.stored).epoch;
  works : (g.L.StoredLog.log l.fn.stored).has_failed ≡ false → (g.L.StoredLog.log l.stored).has_failed ≡ false;
  alone : (g.L.StoredLog.log l.stored).is_alone ≡ (g.L.StoredLog.log l.fn.stored).is_alone;
}
