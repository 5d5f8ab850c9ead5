use Rattle.std.proofs.Common.{◌≡◌, map, take}
use Rattle.served_log.proofs.restore.copy_names.Given as goal

abbrev pub invariant-loop-name : goal.invariant-loop-name
invariant-loop-name l = l.made.items ≡ map (λ s. s.now) (take l.name-index l.names)
