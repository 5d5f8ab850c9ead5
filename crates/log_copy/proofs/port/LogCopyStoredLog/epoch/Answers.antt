use Rattle.log_copy.proofs.PortLemmas.{leaves_docs, leaves_one, leaves_some, still_works}
use Rattle.log_copy.proofs.port.LogCopyStoredLog.epoch.Goals as goal

pub returns-clause-some : goal.returns-clause-some
returns-clause-some g c = leaves_some g.S.Store c.args.self.now (g.met.S.Store.survives c.args.self.now.conn.store)

pub returns-clause-one : goal.returns-clause-one
returns-clause-one g c = leaves_one g.S.Store c.args.self.now (g.met.S.Store.survives c.args.self.now.conn.store)

pub returns-clause-one_docs : goal.returns-clause-one_docs
returns-clause-one_docs g c = leaves_docs g.S.Store c.args.self.now (g.met.S.Store.survives c.args.self.now.conn.store)

pub returns-clause-stays : goal.returns-clause-stays
returns-clause-stays g c = still_works g.S.Store c.args.self.now c.epoch.ensures.sound
