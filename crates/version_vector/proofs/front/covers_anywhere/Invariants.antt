use Rattle.std.proofs.Common.{◌≡◌, drop}
use Rattle.std.specs.List.{zip}
use Rattle.version_vector.specs.Front.{covers}
use Rattle.version_vector.proofs.front.covers_anywhere.Given as goal

abbrev pub invariant-loop-at : goal.invariant-loop-at
invariant-loop-at l = covers (drop l.at (zip l.names l.counters)) l.id ≡ covers (zip l.names l.counters) l.id
