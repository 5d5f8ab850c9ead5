use Rattle.std.proofs.Common.{◌≡◌, ◌+◌, ℕ, ◌++◌, ◌≤◌, length, take, drop, map}
use Rattle.op_core.specs.Wire.{wire}
use Rattle.json_text.specs.Tokens.{all_tokens}
use Rattle.doc_rules.specs.Answers.{since}
use Rattle.op_log.specs.Index.{IsUncovered}
use Rattle.op_log.specs.Lacks.{HoldsLacks}
use Rattle.op_log.proofs.encode.put_uncovered.Given as goal

abbrev pub invariant-loop : goal.invariant-loop
invariant-loop l =
    let all = since l.front l.log.operations in
    (l.text ≡ l.initial.text ++ all_tokens (map wire (take l.counter all)))
    × (since l.front (drop l.from l.log.operations) ≡ drop l.counter all)
    × (l.from ≤ length l.log.operations)
    × ((k : ℕ) → k + 1 ≡ l.from → IsUncovered l.front l.log.operations k)
    × HoldsLacks l.front l.log.operations l.lacks
