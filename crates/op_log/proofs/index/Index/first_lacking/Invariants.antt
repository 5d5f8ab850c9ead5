use Rattle.std.proofs.Common.{ℕ, ◌≤◌, List, length, take, Contains}
use Rattle.op_log.specs.Index.{CoversChain, IsUncovered}
use Rattle.op_log.specs.Lacks.{IsLack, AreLacks}
use Rattle.op_log.specs.declared.index.Lack.{Lack}
use Rattle.op_log.proofs.index.Index.first_lacking.Given as goal

abbrev pub invariant-loop-lack : goal.invariant-loop-lack
invariant-loop-lack l =
    (l.from ≤ l.least) × (l.least ≤ length l.entries)
    × ((front : List (List ℕ × ℕ)) (lack : Lack) → Contains (take l.lack-index l.lacks) lack → (name : List ℕ) → IsLack front l.entries name lack
    → CoversChain front l.entries name l.from l.least)
    × ((front : List (List ℕ × ℕ)) → AreLacks front l.entries l.lacks → IsUncovered front l.entries l.least)
