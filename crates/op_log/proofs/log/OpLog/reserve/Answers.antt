use Rattle.std.proofs.Common.{ℕ, ◌+◌, ◌-◌, ◌≤◌, min, arith}
use Rattle.op_log.proofs.log.OpLog.reserve.Goals as goal

room_in_each : (n i a b c d : ℕ) → n ≤ i → a + n ≤ b → c + n ≤ d → n ≤ min i (min (b - a) (d - c))
room_in_each n i a b c d index entries front = omega arith

pub returns-clause-ok : goal.returns-clause-ok
returns-clause-ok c = room_in_each c.args.n _ _ _ _ _ c.in_ok-reserve-2.ensures.ok c.in_ok-reserve.ensures.ok c.in_ok-reserve-3.ensures.ok
