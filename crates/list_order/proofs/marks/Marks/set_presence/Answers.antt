use Rattle.std.proofs.Common.{◌<◌, ◌≤◌, ◌^◌, ◌∙◌, sym, ap, subst, length}
use Rattle.list_order.specs.declared.marks.Mark.{Mark}
use Rattle.list_order.specs.Marks.{block_at, bit, moved, moved_in}
use Rattle.list_order.proofs.marks.Marks.set_presence.Goals as goal

pub move_count-requires-clause-counted : goal.move_count-requires-clause-counted
move_count-requires-clause-counted c =
    let blocks = c.args.self.now.blocks.items in
    subst (λ (m : Mark). m.block < length blocks → bit m.is_present ≤ (block_at blocks m.block).present) (sym c.at-mark.ensures) (λ within. (c.requires.may.in_block within).enough)

pub move_count-requires-clause-fits : goal.move_count-requires-clause-fits
move_count-requires-clause-fits c =
    let blocks = c.args.self.now.blocks.items in
    subst (λ (m : Mark). m.block < length blocks → moved (block_at blocks m.block).present m.is_present c.args.is < 2 ^ 64) (sym c.at-mark.ensures) (λ within. (c.requires.may.in_block within).fits)

pub returns-clause-blocks : goal.returns-clause-blocks
returns-clause-blocks c = c.move_count.ensures ∙ ap (λ (m : Mark). moved_in c.args.self.now.blocks.items m.block m.is_present c.args.is) c.at-mark.ensures
