use Rattle.std.proofs.Common.{◌≡◌, ◌<◌, length, get_or, arith, rules}
use Rattle.stored_log.proofs.Fronts.{front_step}
use Rattle.stored_log.proofs.same.are_same.Goals as goal

pub loop-i-preserved : goal.loop-i-preserved
loop-i-preserved c =
    let at = c.loop-i in
    let x = c.index-a-i.result in
    let y = c.index-b-i.result in
    let in_b : at.i < length c.args.b.now = omega (arith, at.invariant.0, c.loop-i-test.true) in
    let at_a : get_or c.args.a.now at.i x ≡ x = search rules in
    let at_b : get_or c.args.b.now at.i y ≡ y = search rules in
    (at.invariant.0, front_step c.args.a.now c.args.b.now at.i x y c.loop-i-test.true in_b at_a at_b (c.is_same.ensures c.if-not-is_same.false) at.invariant.1)
