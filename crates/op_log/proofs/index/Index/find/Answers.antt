use Rattle.std.proofs.Common.{Some, sym, ap, ◌∙◌}
use Rattle.op_core.specs.Op.{Op}
use Rattle.op_log.proofs.Indexes.{read_at}
use Rattle.op_log.proofs.index.Index.find.Goals as goal

pub returns-in-Some : goal.returns-in-Some
returns-in-Some c =
    let (op, there, found) = c.in-Some.ensures.found in
    ap (λ (o : Op). Some o) (read_at c.args.entries.now c.in-Some.at op c.index-entries-at.result there c.index-entries-at.is) ∙ sym found
