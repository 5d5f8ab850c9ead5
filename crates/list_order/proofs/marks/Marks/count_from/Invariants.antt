use Rattle.std.proofs.Common.{◌≡◌, ◌+◌, length}
use Rattle.list_order.specs.Slots.{slots_from, LinksEnd}
use Rattle.list_order.specs.Marks.{count_to}
use Rattle.list_order.proofs.marks.Marks.count_from.Given as goal

abbrev pub invariant-loop-at : goal.invariant-loop-at
invariant-loop-at l = record {
  walk : LinksEnd l.chain.slots.items l.at;
  same : l.count + count_to l.n l.self.by_slot.items (slots_from l.chain.slots.items l.at) ≡ count_to l.n l.self.by_slot.items (slots_from l.chain.slots.items l.fn.start);
}

abbrev pub decreases-loop-at : goal.decreases-loop-at
decreases-loop-at l = length (slots_from l.chain.slots.items l.at)
