use Rattle.hold_buffer.proofs.FreeOnes.{without_place, without_gap}
use Rattle.hold_buffer.proofs.ready.drop_id.Goals as goal

pub returns-in-Ok-clause-items : goal.returns-in-Ok-clause-items
returns-in-Ok-clause-items c =
    let place = rw c.deref.ensures.value at c.in-Ok.ensures in
    rw c.remove.ensures.items (without_place c.args.ready.now.items c.args.id.now c.in-Ok.at c.requires place)

pub returns-in_default-clause-items : goal.returns-in_default-clause-items
returns-in_default-clause-items c =
    let gap = rw c.deref.ensures.value at c.in_default.ensures in
    without_gap c.args.ready.now.items c.args.id.now _ gap
