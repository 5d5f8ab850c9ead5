use Rattle.std.proofs.Common.{◌-◌, drop, length-drop, sym, ◌∙◌, arith}
use Rattle.version_vector.proofs.Fronts.{is_ascending-short}
use Rattle.version_vector.proofs.front.ascends.Goals as goal

pub returns : goal.returns
returns c =
    let last = drop (c.loop-i.i - 1) c.args.entries.now in
    sym (c.loop-i.invariant ∙ is_ascending-short last (omega (arith, length-drop (c.loop-i.i - 1) c.args.entries.now)))
