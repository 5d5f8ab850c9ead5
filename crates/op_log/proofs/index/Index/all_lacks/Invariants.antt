use Rattle.std.proofs.Common.{take}
use Rattle.op_log.proofs.Lacks.{AreLacksOf}
use Rattle.op_log.proofs.index.Index.all_lacks.Given as goal

abbrev pub invariant-loop-at : goal.invariant-loop-at
invariant-loop-at l = AreLacksOf l.front l.entries (take l.at l.self.lasts.items) l.found.items
