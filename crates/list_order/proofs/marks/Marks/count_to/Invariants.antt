use Rattle.std.proofs.Common.{◌≡◌, ◌+◌}
use Rattle.list_order.specs.Slots.{slots_from, LinksEnd}
use Rattle.list_order.specs.Marks.{count_to, from_block, mark_at}
use Rattle.list_order.proofs.marks.Marks.count_to.Given as goal

abbrev pub invariant-loop-block : goal.invariant-loop-block
invariant-loop-block l = record {
  walk : LinksEnd l.chain.slots.items l.start;
  rest : slots_from l.chain.slots.items l.start ≡ from_block l.block-index l.self.by_slot.items (slots_from l.chain.slots.items l.chain.first);
  behind : l.left + l.block-index ≡ (mark_at l.self.by_slot.items l.n).block;
  same : l.count + count_to l.n l.self.by_slot.items (slots_from l.chain.slots.items l.start) ≡ count_to l.n l.self.by_slot.items (slots_from l.chain.slots.items l.chain.first);
}
