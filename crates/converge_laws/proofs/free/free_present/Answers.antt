use Rattle.std.proofs.Common.{sym, ap, ◌∙◌}
use Rattle.crdt_rules.specs.Free.{free_present}
use Rattle.crdt_rules.proofs.ReplayFacts.{replay_present}
use Rattle.converge_laws.proofs.free.free_present.Goals as goal

pub returns-clause-good : goal.returns-clause-good
returns-clause-good c =
    let ops = c.args.ops.now in
    let key = c.args.at.now.key in
    λ good.
    c.free_present.ensures
    ∙ ap (λ path. free_present ops path key c.args.id) c.as_slice.ensures
    ∙ sym (ap (λ f. f c.args.at.now.path key c.args.id) (replay_present ops good))
