use Rattle.std.proofs.Common.{ℕ, ◌≤◌, List, length, take, Contains}
use Rattle.op_log.specs.Index.{CoversChain}
use Rattle.op_log.proofs.index.Index.covered_before.Given as goal

abbrev pub invariant-loop-at : goal.invariant-loop-at
invariant-loop-at l =
    (l.least ≤ length l.entries) × ((f : List ℕ × ℕ) → Contains (take l.at l.self.lasts.items) f → CoversChain l.front l.entries f.0 0 l.least)
