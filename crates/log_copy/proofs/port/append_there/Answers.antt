use Rattle.log_copy.proofs.PortLemmas.{added_or_not, still_there}
use Rattle.log_copy.proofs.port.append_there.Goals as goal

pub returns-clause-crash : goal.returns-clause-crash
returns-clause-crash g c = λ works. added_or_not g.S.Store c.args.copy.now c.add_batch_there.new.self c.add_batch_there.ensures.alone c.args.doc.now c.args.entries.now (c.add_batch_there.ensures.crash works)

pub returns-clause-stays : goal.returns-clause-stays
returns-clause-stays g c = still_there g.S.Store c.add_batch_there.new.self c.add_batch_there.ensures.sound c.add_batch_there.result c.add_batch_there.ensures.failed
