use Rattle.std.proofs.Common.{◌≡◌, ◌<◌, ◌≤◌, Some, slice_get, sym, subst}
use Rattle.op_core.specs.Op.{Op}
use Rattle.op_log.specs.Index.{HasOpAt}
use Rattle.op_log.proofs.Growing.{far_stands, before_stands, first_at}
use Rattle.op_log.proofs.index.Index.+first_from.Goals as goal

pub returns-then-is_before-clause-first : goal.returns-then-is_before-clause-first
returns-then-is_before-clause-first t c name at =
    c.first_from.ensures.first name
    (subst (HasOpAt c.args.entries.now name) (sym c.number-far.ensures) (far_stands c.requires.index.links name c.args.at c.index-link.result.now c.index-link.ensures at))

pub returns-then-is_before-2-clause-first : goal.returns-then-is_before-2-clause-first
returns-then-is_before-2-clause-first t c name at =
    c.first_from-then-is_before-2.ensures.first name
    (subst (HasOpAt c.args.entries.now name) (sym c.number-before.ensures) (before_stands c.requires.index.links name c.args.at c.index-link.result.now c.index-link.ensures at))

pub returns-clause-first : goal.returns-clause-first
returns-clause-first t c name at =
    first_at c.requires.index.links name c.args.at c.index-link.result.now c.index-link.ensures at c.requires.index.good c.args.from c.args.counter (c.requires.reaches at.op at.there)
    (subst (λ b. b < c.args.at → c.args.from ≤ b → (op : Op) → slice_get c.args.entries.now b ≡ Some op → op.id.counter < c.args.counter) c.number-before.ensures c.if-is_before-2.ensures)
