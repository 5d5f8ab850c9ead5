use Rattle.std.proofs.Common.{◌≡◌, map, filter, not, take}
use Rattle.version_vector.specs.Front.{id_of}
use Rattle.crdt_rules.specs.Dependencies.{is_logged}
use Rattle.op_log.proofs.log.OpLog.unlogged.Given as goal

abbrev pub invariant-loop-at : goal.invariant-loop-at
invariant-loop-at l = l.ids.items ≡ filter (λ i. not (is_logged l.self.operations i)) (map id_of (take l.at l.front))
