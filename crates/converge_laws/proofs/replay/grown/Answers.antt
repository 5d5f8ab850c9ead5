use Rattle.std.proofs.Common.{rules, ◌<◌, length, take, sym, subst}
use Rattle.crdt_rules.specs.Fits.{Fits}
use Rattle.doc_view.proofs.Growing.{new_tree}
use Rattle.converge_laws.proofs.Replays.{fits_at}
use Rattle.converge_laws.proofs.replay.grown.Goals as goal

pub loop-i-init : goal.loop-i-init
loop-i-init c = new_tree c.in_ok-tree.tree c.in_ok-tree.ensures.ok

pub grow-requires-clause-good : goal.grow-requires-clause-good
grow-requires-clause-good c =
    let within : c.loop-i.i < length c.args.ops.now = search rules in
    (fits_at c.args.ops.now c.loop-i.i c.index-ops-i.result c.requires within).0

pub grow-requires-clause-fits : goal.grow-requires-clause-fits
grow-requires-clause-fits c =
    let within : c.loop-i.i < length c.args.ops.now = search rules in
    subst (λ op. Fits op (take c.loop-i.i c.args.ops.now)) (sym c.index-ops-i.is)
    (fits_at c.args.ops.now c.loop-i.i c.index-ops-i.result c.requires within).1
