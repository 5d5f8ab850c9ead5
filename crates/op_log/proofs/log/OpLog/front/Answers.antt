use Rattle.std.proofs.Common.{Ok, ap, ◌∙◌}
use Rattle.crdt_rules.specs.Pull.{front_of}
use Rattle.op_log.proofs.WholeFronts.{front_is}
use Rattle.op_log.proofs.log.OpLog.front.Goals as goal

pub returns : goal.returns
returns c other =
    c.beside_last.ensures other
    ∙ ap Ok
    (c.deref.ensures.value ∙ front_is c.self.inside.entries.items c.self.inside.front.items c.self.invariant.front
    ∙ ap (λ l. front_of l.operations) c.self.view_is)
