use Rattle.std.proofs.Common.{◌≡◌, ℕ, List, ◌++◌, length}
use Rattle.line_feed.specs.Lines.{lines}
use Rattle.replica_c.specs.Stored.{AreWritten}
use Rattle.replica_c.proofs.open.read_all.Given as goal

-- the lines that were read write the operations so far, and the others are those of the rest
abbrev pub invariant-loop-rest : goal.invariant-loop-rest
invariant-loop-rest l =
    (read : List (List ℕ)) × (lines l.text ≡ read ++ lines l.rest) × AreWritten read l.operations.items

abbrev pub decreases-loop-rest : goal.decreases-loop-rest
decreases-loop-rest l = length l.rest
