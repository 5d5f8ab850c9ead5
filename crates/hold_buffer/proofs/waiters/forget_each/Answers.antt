use Rattle.hold_buffer.proofs.waiters.forget_each.Goals as goal

pub loop-id-init : goal.loop-id-init
loop-id-init c n k other there = there

pub loop-id-preserved : goal.loop-id-preserved
loop-id-preserved c n k other there = c.forget_at.ensures n k other (c.loop-id.invariant n k other there)

pub returns : goal.returns
returns c = c.loop-id.invariant
