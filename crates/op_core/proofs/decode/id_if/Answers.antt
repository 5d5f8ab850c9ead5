use Rattle.std.proofs.Common.{Bool, ap, sym, ◌∙◌}
use Rattle.lamport_id.specs.declared.id.Id.{Id}
use Rattle.op_core.specs.Reading.{some_if}
use Rattle.op_core.proofs.decode.id_if.Goals as goal

pub returns-else-is_id : goal.returns-else-is_id
returns-else-is_id c =
    let id : Id = record { counter = c.args.counter; replica = c.args.replica } in
    ap (λ (b : Bool). some_if b id) (sym c.if-is_id.false ∙ c.is_id.ensures)
