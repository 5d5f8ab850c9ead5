use Rattle.std.proofs.Common.{◌&&◌, not, sym, ap, ◌∙◌}
use Rattle.op_core.specs.declared.mutation.Mutation.{Mutation}
use Rattle.crdt_rules.specs.Effect.{is_delete, path_of, end_key}
use Rattle.crdt_rules.specs.Within.{is_within}
use Rattle.crdt_rules.proofs.free.marks.Goals as goal

pub returns-in-Delete : goal.returns-in-Delete
returns-in-Delete c =
    let op = c.args.op.now in
    ap (λ (m : Mutation). not (is_delete m) && is_within (path_of op) (end_key op) c.args.path.now c.args.key.now) (sym c.in-Delete.is ∙ c.mutation.ensures)
