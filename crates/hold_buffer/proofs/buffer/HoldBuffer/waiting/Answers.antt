use Rattle.std.proofs.Common.{Ok, sym, ap, subst, ◌∙◌}
use Rattle.hold_buffer.specs.Held.{Buffer, IsCurrent}
use Rattle.hold_buffer.proofs.Intact.{entries_missing}
use Rattle.hold_buffer.proofs.buffer.HoldBuffer.waiting.Goals as goal

pub returns : goal.returns
returns c other =
    let log = c.args.log.now.operations in
    let current = subst (λ (b : Buffer). IsCurrent b log) (sym c.self.view_is) c.requires in
    let told = c.waiting_of.ensures in
    rw (← c.self.view_is) (told other ∙ ap Ok (entries_missing c.self.invariant.intact log current))
