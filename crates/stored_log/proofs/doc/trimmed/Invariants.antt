use Rattle.std.proofs.Common.{◌≡◌, ◌+◌, ◌≤◌, length, take}
use Rattle.crdt_rules.specs.Log.{IsGood}
use Rattle.stored_log.proofs.doc.trimmed.Given as goal

abbrev pub invariant-loop-at : goal.invariant-loop-at
invariant-loop-at l = record {
  same : l.first.operations ≡ take l.at l.log.operations;
  room : l.rows ≤ l.first.room + l.at;
  good : IsGood l.log.operations;
  within : l.rows ≤ length l.log.operations;
}
