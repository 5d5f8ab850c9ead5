use Rattle.std.proofs.Common.{subst}
use Rattle.doc_rules.proofs.Misfits.{good_has_none}
use Rattle.replica_core.specs.Misfits.{IsMisfitOf}
use Rattle.locked_doc.proofs.ledger.replica_of.Goals as goal

pub returns-in-Err-At-clause-memory : goal.returns-in-Err-At-clause-memory
returns-in-Err-At-clause-memory c = λ good.
    absurd (good_has_none c.args.operations.now c.in-Err-At.field-0-0 c.in-Err-At.cause good (subst (IsMisfitOf c.args.operations.now) c.in-Err-At.field-0-is c.in-Err-At.ensures.err))
