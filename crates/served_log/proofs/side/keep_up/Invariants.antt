use Rattle.std.proofs.Common.{◌≡◌, false}
use Rattle.served_log.specs.Batches.{AddsBatches}
use Rattle.served_log.specs.Kept.{StaysKept}
use Rattle.served_log.specs.Known.{StaysKnown}
use Rattle.served_log.proofs.side.keep_up.Given as goal

abbrev pub invariant-loop : goal.invariant-loop
invariant-loop g l = record {
  waits : (goal.iterator-loop g).can_next l.iterator' × (goal.iterator-loop g).is_finite l.iterator';
  grown : AddsBatches g.M.Marker.origin l.shared.names.items (g.L.StoredLog.log l.fn.stored) (g.L.StoredLog.log l.stored);
  known : StaysKnown l.shared.names.items (g.L.StoredLog.log l.fn.stored).docs l.fn.seats (g.L.StoredLog.log l.stored).docs l.seats;
  kept : StaysKept g.L.StoredLog l.fn.stored l.stored;
  works : (g.L.StoredLog.log l.fn.stored).has_failed ≡ false → (g.L.StoredLog.log l.stored).has_failed ≡ false;
  alone : (g.L.StoredLog.log l.stored).is_alone ≡ (g.L.StoredLog.log l.fn.stored).is_alone;
}
