use Rattle.std.proofs.Common.{◌≡◌, drop}
use Rattle.crdt_rules.specs.Free.{is_cleared}
use Rattle.crdt_rules.proofs.free.is_cleared.Given as goal

abbrev pub invariant-loop-op : goal.invariant-loop-op
invariant-loop-op l = is_cleared l.ops l.path l.key l.id ≡ is_cleared (drop l.op-index l.ops) l.path l.key l.id
