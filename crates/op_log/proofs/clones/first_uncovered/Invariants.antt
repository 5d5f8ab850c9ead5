use Rattle.std.proofs.Common.{◌≡◌, ◌+◌, ℕ, ◌≤◌, take, drop, length}
use Rattle.doc_rules.specs.Answers.{since}
use Rattle.op_log.specs.Index.{IsUncovered}
use Rattle.op_log.specs.Lacks.{HoldsLacks}
use Rattle.op_log.proofs.clones.first_uncovered.Given as goal

abbrev pub invariant-loop : goal.invariant-loop
invariant-loop l =
    let all = since l.front l.log.operations in
    (l.found.items ≡ take l.counter all)
    × (since l.front (drop l.from l.log.operations) ≡ drop l.counter all)
    × (l.from ≤ length l.log.operations)
    × ((k : ℕ) → k + 1 ≡ l.from → IsUncovered l.front l.log.operations k)
    × HoldsLacks l.front l.log.operations l.lacks
