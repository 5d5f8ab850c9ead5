use Rattle.std.proofs.Common.{◌≡◌, length, vec_capacity}
use Rattle.list_order.specs.Slots.{slots_from, LinksEnd}
use Rattle.list_order.proofs.Cutting.{IsPartlyCut}
use Rattle.list_order.proofs.marks.Marks.cut_on.Given as goal

abbrev pub invariant-loop-at : goal.invariant-loop-at
invariant-loop-at l = record {
  walk : LinksEnd l.chain.slots.items l.at;
  cut : IsPartlyCut l.chain.slots.items l.chain.first l.fn.self.by_slot.items l.self.by_slot.items l.self.blocks.items l.at l.rest.present l.rest.least_counter;
  present : l.self.present ≡ l.fn.self.present;
  capacity : vec_capacity l.self.by_slot ≡ vec_capacity l.fn.self.by_slot;
}

abbrev pub decreases-loop-at : goal.decreases-loop-at
decreases-loop-at l = length (slots_from l.chain.slots.items l.at)
