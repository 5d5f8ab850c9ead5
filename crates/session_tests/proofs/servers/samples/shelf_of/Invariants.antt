use Rattle.std.proofs.Common.{◌≡◌, ◌≤◌, ◌+◌, ◌-◌}
use Rattle.locked_doc.specs.Numbers.{greatest_number}
use Rattle.session_tests.proofs.servers.samples.shelf_of.Given as goal

abbrev pub invariant-loop : goal.invariant-loop
invariant-loop g l = record {
  placed : l.shelf ≡ l.counter;
  room : l.documents ≤ (greatest_number - l.ledger) + l.counter;
}
