use Rattle.doc_rules.proofs.Misfits.{good_has_none}
use Rattle.converge_laws.proofs.Sets.{no_good}
use Rattle.converge_laws.proofs.agree.good_log.Goals as goal

pub returns-in-Err-clause-ok : goal.returns-in-Err-clause-ok
returns-in-Err-clause-ok c =
    no_good c.args.ops.now c.no_log.result c.no_log.ensures.none
    (λ ok good. let misfit = c.in-Err.ensures.misfit (c.no_log.ensures.misfit ok) in good_has_none c.args.ops.now misfit.0 c.in-Err.cause good misfit.1)
