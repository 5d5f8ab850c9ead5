use Rattle.std.proofs.Common.{◌≡◌, ◌++◌, map, take, drop}
use Rattle.presence_set.specs.ById.{uncovered}
use Rattle.presence_set.proofs.blocks.retain_each.Given as goal

abbrev pub invariant-loop-at : goal.invariant-loop-at
invariant-loop-at g l =
    l.blocks.items ≡ map (λ b. (uncovered l.front b.0, b.1)) (take l.at l.fn.blocks.items) ++ drop l.at l.fn.blocks.items
