use Rattle.op_log.proofs.Lacks.{lack_is}
use Rattle.op_log.proofs.Indexes.{stands-within}
use Rattle.op_log.proofs.index.lack_of.Goals as goal

pub lack_behind-requires : goal.lack_behind-requires
lack_behind-requires c = stands-within c.requires.last.here

pub returns : goal.returns
returns c =
    let is = c.requires.last in
    lack_is c.args.front.now c.args.entries.now c.args.last.now.0 c.counter_near.result c.counter_near.ensures c.args.last.now.1 is c.requires.good c.requires.ascending c.lack_behind.result
    (c.lack_behind.ensures is.here.op is.here.there)
