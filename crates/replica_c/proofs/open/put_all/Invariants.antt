use Rattle.std.proofs.Common.{◌≡◌, ◌++◌, take}
use Rattle.replica_c.specs.Serving.{op_lines}
use Rattle.replica_c.proofs.open.put_all.Given as goal

abbrev pub invariant-loop-id : goal.invariant-loop-id
invariant-loop-id l = l.text.items ≡ l.initial.text.items ++ op_lines l.log.operations (take l.id-index l.ids)
