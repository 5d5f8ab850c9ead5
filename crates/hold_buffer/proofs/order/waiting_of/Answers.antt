use Rattle.std.proofs.Common.{◌<◌, length, refl, arith}
use Rattle.hold_buffer.specs.declared.entry.Entry.{Entry}
use Rattle.version_vector.proofs.Steps.{map_grown}
use Rattle.hold_buffer.proofs.order.waiting_of.Goals as goal

pub loop-at-preserved : goal.loop-at-preserved
loop-at-preserved c =
    let order = c.args.order.now.items in
    let t = c.index.result.now in
    let within : c.loop-at.at < length order = omega (arith, c.loop-at-test.true, c.len-at-end.ensures, c.args.order.now.ok.0) in
    map_grown (λ (u : Entry). (u.id, u.missing)) order c.loop-at.at t _ _ (t.id, t.missing)
    within c.index.ensures refl c.loop-at.invariant c.in_ok-push_waiting.ensures.ok
