use Rattle.log_copy.proofs.PortLemmas.{same_log, store_leaves_one}
use Rattle.log_copy.proofs.port.LogCopyStoredLog.fold.Goals as goal

pub returns-in-Ok-clause-same : goal.returns-in-Ok-clause-same
returns-in-Ok-clause-same g c = same_log c.in-Ok.copy c.args.self c.in-Ok.ensures.same

pub returns-in-Ok-clause-folded : goal.returns-in-Ok-clause-folded
returns-in-Ok-clause-folded g c = λ works. record { same = same_log c.in-Ok.copy c.args.self c.in-Ok.ensures.same; between = c.in-Ok.ensures.folded works }

pub returns-in-Err-clause-sure : goal.returns-in-Err-clause-sure
returns-in-Err-clause-sure g c = store_leaves_one g.S.Store c.in-Err.store (g.met.S.Store.survives c.in-Err.store)
