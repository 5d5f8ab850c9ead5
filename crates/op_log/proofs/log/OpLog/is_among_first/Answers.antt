use Rattle.std.proofs.Common.{sym}
use Rattle.crdt_rules.proofs.GoodLogs.{ids_once}
use Rattle.op_log.proofs.Among.{found_among, none_among}
use Rattle.op_log.proofs.log.OpLog.is_among_first.Goals as goal

pub returns-in-Some : goal.returns-in-Some
returns-in-Some c =
    let found = rw c.in-Some.is at c.position_of.ensures.found in
    found_among c.args.self.now.operations c.args.id c.args.n c.in-Some.at found.0 (ids_once c.args.self.now.operations c.position_of.ensures.good) found.1 found.2

pub returns-in-None : goal.returns-in-None
returns-in-None c =
    let none = rw c.in-None.is at c.position_of.ensures.found in
    sym (none_among c.args.self.now.operations c.args.id c.args.n none)
