use Rattle.std.proofs.Common.{◌≡◌, max, drop}
use Rattle.version_vector.specs.Front.{greatest}
use Rattle.version_vector.proofs.chunks.greatest.Given as goal

abbrev pub invariant-loop-counter : goal.invariant-loop-counter
invariant-loop-counter l = max l.most (greatest (drop l.counter-index l.counters)) ≡ greatest l.counters
