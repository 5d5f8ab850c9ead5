use Rattle.std.proofs.Common.{ap, ◌∙◌}
use Rattle.op_core.specs.Shape.{is_list}
use Rattle.op_core.proofs.Shapes.{ends_in_list-at_last}
use Rattle.op_core.proofs.cursor.ends_in_list.Goals as goal

pub returns-in-len1-up : goal.returns-in-len1-up
returns-in-len1-up c =
    c.is_list.ensures ∙ ap is_list c.last-item.is ∙ ends_in_list-at_last c.args.keys.now c.last-item.result c.in-len1-up.len_at_least
