use Rattle.std.proofs.Common.{◌<◌, sym, ap, subst, None, arith}
use Rattle.list_order.specs.Slots.{slots_from}
use Rattle.list_order.specs.Marks.{mark_at, IsCounted}
use Rattle.list_order.proofs.Paths.{length-path_from}
use Rattle.list_order.proofs.Counting.{from-zero, block_step}
use Rattle.list_order.proofs.Reaching.{count_to-few, count_to-block}
use Rattle.list_order.proofs.marks.Marks.count_to.Goals as goal

pub loop-block-init : goal.loop-block-init
loop-block-init c = record {
  walk = c.requires.fits.walk;
  rest = sym (from-zero c.args.self.now.by_slot.items (slots_from c.args.chain.now.slots.items c.args.chain.now.first));
  behind = omega (arith, ap (λ m. m.block) c.at-left.ensures);
  same = omega arith;
}

pub overflow_add-count : goal.overflow_add-count
overflow_add-count c =
    let slots = c.args.chain.now.slots.items in
    let first = c.args.chain.now.first in
    let marks = c.args.self.now.by_slot.items in
    let blocks = c.as_slice-block-items.result.now in
    let counted = subst (λ b. IsCounted marks b (slots_from slots first) None) (sym c.as_slice-block-items.ensures.value) c.requires.fits.counted in
    let l = c.loop-block in
    let before : l.block-index < (mark_at marks c.args.n).block = omega (arith, l.invariant.behind, c.if-left-eq0.false) in
    omega (
      arith,
      count_to-block marks c.args.n slots first blocks c.requires.fits.walk counted l.block-index l.start c.loop-block-test.true before l.invariant.rest,
      l.invariant.same,
      count_to-few marks c.args.n (slots_from slots first),
      length-path_from slots first,
      c.args.chain.now.slots.ok.0,
    )

pub loop-block-preserved : goal.loop-block-preserved
loop-block-preserved c =
    let slots = c.args.chain.now.slots.items in
    let first = c.args.chain.now.first in
    let marks = c.args.self.now.by_slot.items in
    let n = c.args.n in
    let blocks = c.as_slice-block-items.result.now in
    let counted = subst (λ b. IsCounted marks b (slots_from slots first) None) (sym c.as_slice-block-items.ensures.value) c.requires.fits.counted in
    let l = c.loop-block in
    let k = l.block-index in
    let before : k < (mark_at marks n).block = omega (arith, l.invariant.behind, c.if-left-eq0.false) in
    let s = block_step marks slots first blocks c.requires.fits.walk counted k l.start c.loop-block-test.true l.invariant.rest in
    let counts = count_to-block marks n slots first blocks c.requires.fits.walk counted k l.start c.loop-block-test.true before l.invariant.rest in
    record {
      walk = s.0;
      rest = s.1;
      behind = omega (arith, l.invariant.behind, c.if-left-eq0.false);
      same = omega (arith, counts, l.invariant.same);
    }

pub overflow_add-result : goal.overflow_add-result
overflow_add-result c =
    let slots = c.args.chain.now.slots.items in
    let first = c.args.chain.now.first in
    let marks = c.args.self.now.by_slot.items in
    omega (
      arith,
      c.count_from.ensures,
      c.loop-block.invariant.same,
      count_to-few marks c.args.n (slots_from slots first),
      length-path_from slots first,
      c.args.chain.now.slots.ok.0,
    )
