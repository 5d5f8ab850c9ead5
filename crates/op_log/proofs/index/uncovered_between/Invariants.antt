use Rattle.op_log.specs.Index.{CoversBetween}
use Rattle.op_log.proofs.index.uncovered_between.Given as goal

abbrev pub invariant-loop-at : goal.invariant-loop-at
invariant-loop-at l = CoversBetween l.front l.entries l.from l.at
