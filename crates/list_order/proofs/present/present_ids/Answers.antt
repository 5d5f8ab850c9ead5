use Rattle.std.proofs.Common.{◌<◌, ◌∙◌, ◌++◌, sym, ap, subst, None, length, take, rules}
use Rattle.list_order.specs.Slots.{slots_from}
use Rattle.list_order.specs.Marks.{block_at, present_along, present_from, IsCounted}
use Rattle.list_order.proofs.Counting.{from-zero, block_step}
use Rattle.list_order.proofs.Taking.{taken_on, take_whole}
use Rattle.list_order.proofs.present.present_ids.Goals as goal

pub loop-block-init : goal.loop-block-init
loop-block-init c = record {
  walk = c.requires.walk;
  rest = sym (from-zero c.args.marks.now.by_slot.items (slots_from c.args.chain.now.slots.items c.args.chain.now.first));
  same = ap (λ l. l ++ present_along c.args.chain.now.slots.items c.args.marks.now.by_slot.items (slots_from c.args.chain.now.slots.items c.args.chain.now.first)) (c.in_ok-reserve.ensures.items ∙ c.new-ids.ensures.items);
}

pub loop-block-preserved : goal.loop-block-preserved
loop-block-preserved c =
    let slots = c.args.chain.now.slots.items in
    let marks = c.args.marks.now.by_slot.items in
    let blocks = c.as_slice-block-items.result.now in
    let path = slots_from slots c.args.chain.now.first in
    let counted = subst (λ b. IsCounted marks b path None) (sym c.as_slice-block-items.ensures.value) c.requires.counted in
    let k = c.loop-block.block-index in
    let within : k < length blocks = search rules in
    let s = block_step marks slots c.args.chain.now.first blocks c.requires.walk counted k c.loop-block.at within c.loop-block.invariant.rest in
    record {
      walk = s.0;
      rest = s.1;
      same =
          taken_on c.loop-block.ids.items (present_along slots marks (slots_from slots c.loop-block.at))
          (present_along slots marks (slots_from slots (block_at blocks k).end)) c.push_present.new.ids.items
          (present_along slots marks (slots_from slots c.args.chain.now.first)) (block_at blocks k).present
          c.in_ok-push_present.ensures s.2 c.loop-block.invariant.same;
    }

pub returns : goal.returns
returns c =
    let chain = c.args.chain.now in
    c.in_ok-push_present-2.ensures
    ∙ ap (λ n. c.loop-block.ids.items ++ take n (present_from chain c.args.marks.now c.loop-block.at)) (c.len.ensures ∙ chain.slots.ok.0)
    ∙ ap (λ l. c.loop-block.ids.items ++ l) (take_whole chain.slots.items c.args.marks.now.by_slot.items c.loop-block.at)
    ∙ c.loop-block.invariant.same
