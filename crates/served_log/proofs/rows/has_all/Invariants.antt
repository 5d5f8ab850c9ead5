use Rattle.std.proofs.Common.{map, drop}
use Rattle.served_log.specs.Totals.{AreStored}
use Rattle.served_log.proofs.rows.has_all.Given as goal

abbrev pub invariant-loop-i : goal.invariant-loop-i
invariant-loop-i g l =
    AreStored (g.L.StoredLog.log l.stored).docs (map (λ s. s.now) (drop l.i l.names)) (drop l.i l.totals)
    → AreStored (g.L.StoredLog.log l.stored).docs (map (λ s. s.now) l.names) l.totals
