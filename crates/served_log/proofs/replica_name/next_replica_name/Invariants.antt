use Rattle.std.proofs.Common.{◌≡◌, ◌-◌}
use Rattle.stored_log.specs.Limits.{last_epoch}
use Rattle.stored_log.specs.Log.{KeepsAll}
use Rattle.served_log.proofs.replica_name.next_replica_name.Given as goal

abbrev pub invariant-loop-epoch : goal.invariant-loop-epoch
invariant-loop-epoch g l = record {
  kept : KeepsAll (g.L.StoredLog.log l.fn.stored) (g.L.StoredLog.log l.stored).epoch (g.L.StoredLog.log l.stored).docs;
  alone : (g.L.StoredLog.log l.stored).is_alone ≡ (g.L.StoredLog.log l.fn.stored).is_alone;
  works : (g.L.StoredLog.log l.fn.stored).has_failed ≡ (g.L.StoredLog.log l.stored).has_failed;
}

abbrev pub decreases-loop-epoch : goal.decreases-loop-epoch
decreases-loop-epoch g l = last_epoch - (g.L.StoredLog.log l.stored).epoch
