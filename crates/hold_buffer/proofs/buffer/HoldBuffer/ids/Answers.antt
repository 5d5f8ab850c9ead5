use Rattle.std.proofs.Common.{Ok, sym, ap, ◌∙◌}
use Rattle.hold_buffer.proofs.Waiting.{ids_of_operations}
use Rattle.hold_buffer.proofs.buffer.HoldBuffer.ids.Goals as goal

pub returns : goal.returns
returns c =
    let listed = c.in_ok-ids_of.ensures in
    rw (← c.self.view_is) (λ other. ap Ok (c.from.ensures ∙ listed ∙ sym (ids_of_operations c.self.inside.slots c.self.inside.order.items c.self.invariant.intact.ordered.right)))
