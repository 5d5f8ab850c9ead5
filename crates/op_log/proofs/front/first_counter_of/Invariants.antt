use Rattle.std.proofs.Common.{◌≡◌, drop}
use Rattle.crdt_rules.specs.Dependencies.{entry_of}
use Rattle.op_log.proofs.front.first_counter_of.Given as goal

abbrev pub invariant-loop-at : goal.invariant-loop-at
invariant-loop-at l = entry_of (drop l.at l.front) l.name ≡ entry_of l.front l.name
