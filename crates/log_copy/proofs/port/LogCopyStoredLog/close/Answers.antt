use Rattle.log_copy.proofs.PortLemmas.{store_leaves_one}
use Rattle.log_copy.proofs.port.LogCopyStoredLog.close.Goals as goal

pub returns-in-Ok-clause-copied : goal.returns-in-Ok-clause-copied
returns-in-Ok-clause-copied g c = record { folded = c.in-Ok.ensures.copied; has_all = c.in-Ok.ensures.stays }

pub returns-in-Ok-clause-one : goal.returns-in-Ok-clause-one
returns-in-Ok-clause-one g c = store_leaves_one g.S.Store c.in-Ok.store (g.met.S.Store.survives c.in-Ok.store)

pub returns-in-Err-clause-sure : goal.returns-in-Err-clause-sure
returns-in-Err-clause-sure g c = store_leaves_one g.S.Store c.in-Err.store (g.met.S.Store.survives c.in-Err.store)
