use Rattle.std.proofs.Common.{◌≡◌, drop}
use Rattle.std.specs.List.{list_all}
use Rattle.version_vector.specs.Front.{id_of}
use Rattle.crdt_rules.specs.Dependencies.{is_logged}
use Rattle.op_log.proofs.log.OpLog.logs_front.Given as goal

abbrev pub invariant-loop-at : goal.invariant-loop-at
invariant-loop-at l = list_all (λ e. is_logged l.self.operations (id_of e)) (drop l.at l.front) ≡ list_all (λ e. is_logged l.self.operations (id_of e)) l.front
