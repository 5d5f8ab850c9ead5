use Rattle.op_core.proofs.Operations.{wire_injective}
use Rattle.op_core.proofs.encode.one_form_each.Goals as goal

pub returns : goal.returns
returns c = wire_injective
