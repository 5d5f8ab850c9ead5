use Rattle.std.proofs.Common.{◌≡◌, length, slice_get}
use Rattle.list_order.specs.Slots.{slots_from, LinksEnd}
use Rattle.list_order.specs.Marks.{present_from}
use Rattle.list_order.proofs.marks.Marks.nth_from.Given as goal

abbrev pub invariant-loop-at : goal.invariant-loop-at
invariant-loop-at l = record {
  walk : LinksEnd l.chain.slots.items l.at;
  same : slice_get (present_from l.chain l.self l.at) l.left ≡ slice_get (present_from l.chain l.self l.fn.start) l.i;
}

abbrev pub decreases-loop-at : goal.decreases-loop-at
decreases-loop-at l = length (slots_from l.chain.slots.items l.at)
