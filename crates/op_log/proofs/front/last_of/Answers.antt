use Rattle.std.proofs.Common.{sym}
use Rattle.op_log.proofs.Fronts.{get_by-place, get_by-gap}
use Rattle.op_log.proofs.front.last_of.Goals as goal

pub returns-in-Ok : goal.returns-in-Ok
returns-in-Ok g c = sym (get_by-place c.args.pairs.now c.args.name c.in-Ok.at c.index-pairs-at.result c.requires c.in-Ok.ensures)

pub returns-in-Err : goal.returns-in-Err
returns-in-Err g c = sym (get_by-gap c.args.pairs.now c.args.name c.in-Err.field-0 c.in-Err.ensures)
