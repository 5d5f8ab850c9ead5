use Rattle.op_log.proofs.Deciding.{decides}
use Rattle.op_log.proofs.log.OpLog.check.Goals as goal

pub returns-clause-fits : goal.returns-clause-fits
returns-clause-fits c = decides c.args.op.now c.args.self.now.operations c.first_fit_cause.result c.first_fit_cause.ensures.shaped c.first_fit_cause.ensures.cause
