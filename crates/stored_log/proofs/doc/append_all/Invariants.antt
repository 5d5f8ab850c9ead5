use Rattle.std.proofs.Common.{◌≡◌, ◌+◌, ◌≤◌, ◌++◌, length, take}
use Rattle.stored_log.proofs.doc.append_all.Given as goal

abbrev pub invariant-loop-at : goal.invariant-loop-at
invariant-loop-at l = record {
  appended : l.log.operations ≡ l.fn.log.operations ++ take l.at l.entries;
  room : length l.entries ≤ l.log.room + l.at;
}
