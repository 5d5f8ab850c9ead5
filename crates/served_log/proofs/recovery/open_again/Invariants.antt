use Rattle.std.proofs.Common.{◌≡◌}
use Rattle.served_log.proofs.recovery.open_again.Given as goal

abbrev pub invariant-loop : goal.invariant-loop
invariant-loop g l = g.L.StoredLog.log l.stored ≡ g.L.StoredLog.log l.fn.stored
