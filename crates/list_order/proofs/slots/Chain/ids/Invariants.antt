use Rattle.std.proofs.Common.{◌≡◌, ◌++◌, length}
use Rattle.list_order.specs.Slots.{ids_along, slots_from, LinksEnd}
use Rattle.list_order.proofs.slots.Chain.ids.Given as goal

abbrev pub invariant-loop-at : goal.invariant-loop-at
invariant-loop-at l = record {
  walk : LinksEnd l.self.slots.items l.at;
  same : l.ids.items ++ ids_along l.self.slots.items (slots_from l.self.slots.items l.at) ≡ ids_along l.self.slots.items (slots_from l.self.slots.items l.self.first);
}

abbrev pub decreases-loop-at : goal.decreases-loop-at
decreases-loop-at l = length (slots_from l.self.slots.items l.at)
