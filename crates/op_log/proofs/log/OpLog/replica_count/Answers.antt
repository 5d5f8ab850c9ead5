use Rattle.std.proofs.Common.{◌≤◌, length, arith, ap}
use Rattle.crdt_rules.specs.Fits.{replicas}
use Rattle.crdt_rules.proofs.Room.{good_room}
use Rattle.op_log.proofs.LastCounters.{length-front}
use Rattle.op_log.proofs.log.OpLog.replica_count.Goals as goal

pub returns-clause-count : goal.returns-clause-count
returns-clause-count c =
    let same = length-front c.self.inside.entries.items c.self.inside.front.items c.self.invariant.front in
    let log = ap (λ l. length (replicas l.operations)) c.self.view_is in
    omega (arith, c.len.ensures, c.self.inside.front.ok.0, same, log)

pub returns-clause-within : goal.returns-clause-within
returns-clause-within c =
    let same = length-front c.self.inside.entries.items c.self.inside.front.items c.self.invariant.front in
    let few : length (replicas c.self.inside.entries.items) ≤ 256 = (good_room c.self.inside.entries.items c.self.invariant.index.good).replicas in
    omega (arith, c.len.ensures, c.self.inside.front.ok.0, same, few)
