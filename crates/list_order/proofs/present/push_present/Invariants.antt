use Rattle.std.proofs.Common.{◌≡◌, ◌++◌, length, take}
use Rattle.list_order.specs.Slots.{slots_from, LinksEnd}
use Rattle.list_order.specs.Marks.{present_from}
use Rattle.list_order.proofs.present.push_present.Given as goal

abbrev pub invariant-loop-at : goal.invariant-loop-at
invariant-loop-at l = record {
  walk : LinksEnd l.chain.slots.items l.at;
  same : l.ids.items ++ take l.left (present_from l.chain l.marks l.at) ≡ l.fn.ids.items ++ take l.most (present_from l.chain l.marks l.fn.start);
}

abbrev pub decreases-loop-at : goal.decreases-loop-at
decreases-loop-at l = length (slots_from l.chain.slots.items l.at)
