use Rattle.std.proofs.Common.{◌≡◌, ◌<◌, ◌+◌, ◌-◌, ◌∙◌, sym, ap, subst, None, refl, length, slice_get, rules, arith}
use Rattle.list_order.specs.Slots.{slots_from}
use Rattle.list_order.specs.Marks.{block_at, present_along, IsCounted}
use Rattle.list_order.proofs.Counting.{from-zero, block_step}
use Rattle.list_order.proofs.Taking.{slice_get-drop}
use Rattle.list_order.proofs.marks.Marks.nth.Goals as goal

pub loop-block-init : goal.loop-block-init
loop-block-init c = record {
  walk = c.requires.fits.walk;
  rest = sym (from-zero c.args.self.now.by_slot.items (slots_from c.args.chain.now.slots.items c.args.chain.now.first));
  same = refl;
}

pub loop-block-preserved : goal.loop-block-preserved
loop-block-preserved c =
    let slots = c.args.chain.now.slots.items in
    let marks = c.args.self.now.by_slot.items in
    let blocks = c.as_slice-block-items.result.now in
    let path = slots_from slots c.args.chain.now.first in
    let counted = subst (λ b. IsCounted marks b path None) (sym c.as_slice-block-items.ensures.value) c.requires.fits.counted in
    let k = c.loop-block.block-index in
    let present = (block_at blocks k).present in
    let within : k < length blocks = search rules in
    let s = block_step marks slots c.args.chain.now.first blocks c.requires.fits.walk counted k c.loop-block.at within c.loop-block.invariant.rest in
    let all : present + (c.loop-block.left - present) ≡ c.loop-block.left = omega arith in
    record {
      walk = s.0;
      rest = s.1;
      same =
          ap (λ l. slice_get l (c.loop-block.left - present)) s.2
          ∙ slice_get-drop (present_along slots marks (slots_from slots c.loop-block.at)) present (c.loop-block.left - present)
          ∙ ap (slice_get (present_along slots marks (slots_from slots c.loop-block.at))) all
          ∙ c.loop-block.invariant.same;
    }
