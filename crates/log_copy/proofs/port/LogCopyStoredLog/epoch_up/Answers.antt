use Rattle.log_copy.proofs.PortLemmas.{raised_or_not, still_there}
use Rattle.log_copy.proofs.port.LogCopyStoredLog.epoch_up.Goals as goal

pub returns-clause-crash : goal.returns-clause-crash
returns-clause-crash g c = λ works. raised_or_not g.S.Store c.args.self.now c.epoch_up.new.self c.epoch_up.ensures.alone (c.epoch_up.ensures.crash works)

pub returns-clause-stays : goal.returns-clause-stays
returns-clause-stays g c = still_there g.S.Store c.epoch_up.new.self c.epoch_up.ensures.sound c.epoch_up.result c.epoch_up.ensures.failed
