use Rattle.std.proofs.Common.{sym, ◌∙◌}
use Rattle.hold_buffer.proofs.Least.{only_gap, least_gap, least_place}
use Rattle.hold_buffer.proofs.order.search.Goals as goal

pub returns-in-None : goal.returns-in-None
returns-in-None c = only_gap c.args.order.now.items c.args.id.now c.in-None.ensures.item.3

pub returns-in-Less : goal.returns-in-Less
returns-in-Less c =
    let item = c.in-Some.ensures.item in
    least_gap c.args.order.now.items c.in-Some.least.now c.args.id.now c.requires item.3.0 item.1 (sym c.cmp.ensures ∙ c.in-Less.is)

pub returns-in-Equal : goal.returns-in-Equal
returns-in-Equal c =
    let item = c.in-Some.ensures.item in
    least_place c.args.order.now.items c.in-Some.least.now c.args.id.now item.3.0 item.1 (sym c.cmp.ensures ∙ c.in-Equal.is)
