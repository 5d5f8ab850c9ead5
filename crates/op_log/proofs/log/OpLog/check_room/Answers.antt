use Rattle.std.proofs.Common.{sym, ap, ◌∙◌}
use Rattle.crdt_rules.specs.Fits.{last_counter}
use Rattle.op_log.proofs.log.OpLog.check_room.Goals as goal

pub returns : goal.returns
returns c op named = c.room_for.ensures op (ap (last_counter c.args.self.now.operations) named ∙ sym c.last_counter.ensures)
