use Rattle.served_log.proofs.Adding.{adds_many}
use Rattle.served_log.proofs.batch.add_next.Goals as goal

pub returns-clause-some : goal.returns-clause-some
returns-clause-some g c = adds_many _ _ c.append.result c.args.name.now (g.L.StoredLog.log c.args.stored.now).docs (g.L.StoredLog.log c.append.new.self).docs
    c.requires.some c.requires.behind c.append.ensures.ok c.append.ensures.batch
