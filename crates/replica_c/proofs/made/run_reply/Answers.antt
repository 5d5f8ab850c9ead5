use Rattle.std.proofs.Common.{arith}
use Rattle.replica_c.proofs.Running.{reply_to_none}
use Rattle.replica_c.proofs.made.run_reply.Goals as goal

pub returns-in-empty : goal.returns-in-empty
returns-in-empty c =
    reply_to_none c.args.ids.now c.args.count c.args.dropped c.args.why c.reply_to_none.result (omega (arith, c.in-empty.len_below)) (c.reply_to_none.ensures c.args.count c.args.dropped)
