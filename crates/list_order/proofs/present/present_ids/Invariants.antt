use Rattle.std.proofs.Common.{◌≡◌, ◌++◌}
use Rattle.list_order.specs.Slots.{slots_from, LinksEnd}
use Rattle.list_order.specs.Marks.{present_from, from_block}
use Rattle.list_order.proofs.present.present_ids.Given as goal

abbrev pub invariant-loop-block : goal.invariant-loop-block
invariant-loop-block l = record {
  walk : LinksEnd l.chain.slots.items l.at;
  rest : slots_from l.chain.slots.items l.at ≡ from_block l.block-index l.marks.by_slot.items (slots_from l.chain.slots.items l.chain.first);
  same : l.ids.items ++ present_from l.chain l.marks l.at ≡ present_from l.chain l.marks l.chain.first;
}
