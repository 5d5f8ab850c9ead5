use Rattle.std.proofs.Common.{◌≡◌, slice_get}
use Rattle.list_order.specs.Slots.{slots_from, LinksEnd}
use Rattle.list_order.specs.Marks.{present_from, from_block}
use Rattle.list_order.proofs.marks.Marks.nth.Given as goal

abbrev pub invariant-loop-block : goal.invariant-loop-block
invariant-loop-block l = record {
  walk : LinksEnd l.chain.slots.items l.at;
  rest : slots_from l.chain.slots.items l.at ≡ from_block l.block-index l.self.by_slot.items (slots_from l.chain.slots.items l.chain.first);
  same : slice_get (present_from l.chain l.self l.at) l.left ≡ slice_get (present_from l.chain l.self l.chain.first) l.i;
}
