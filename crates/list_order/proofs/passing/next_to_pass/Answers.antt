use Rattle.std.proofs.Common.{refl, inr}
use Rattle.list_order.proofs.Counting.{end_within}
use Rattle.list_order.proofs.passing.next_to_pass.Goals as goal

pub skipped_to-requires-clause-ends : goal.skipped_to-requires-clause-ends
skipped_to-requires-clause-ends c =
    let chain = c.args.chain.now in
    let marks = c.args.marks.now in
    end_within marks.by_slot.items chain.slots.items chain.first marks.blocks.items c.requires.fits.walk c.requires.fits.counted

pub returns-in-Some : goal.returns-in-Some
returns-in-Some c = inr (c.in-Some.m, refl, c.skipped_to.ensures c.in-Some.m c.in-Some.is)
