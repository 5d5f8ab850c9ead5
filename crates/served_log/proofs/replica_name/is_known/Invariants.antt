use Rattle.std.proofs.Common.{◌≡◌, map, drop}
use Rattle.served_log.specs.Named.{is_known}
use Rattle.served_log.proofs.replica_name.is_known.Given as goal

abbrev pub invariant-loop-name : goal.invariant-loop-name
invariant-loop-name g l =
    is_known l.replica (g.L.StoredLog.log l.stored).docs (map (λ s. s.now) (drop l.name-index l.names)) ≡ is_known l.replica (g.L.StoredLog.log l.stored).docs (map (λ s. s.now) l.names)
