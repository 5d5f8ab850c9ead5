use Rattle.std.proofs.Common.{arith}
use Rattle.served_log.proofs.Knowing.{agreed_more}
use Rattle.served_log.proofs.copier_seats.agree_each.Goals as goal

pub loop-i-init : goal.loop-i-init
loop-i-init g c = λ k none. absurd (omega (arith, none))

pub loop-i-preserved : goal.loop-i-preserved
loop-i-preserved g c = agreed_more c.args.books.now c.args.seats.now c.loop-i.i c.agree_at.ensures c.loop-i.invariant
