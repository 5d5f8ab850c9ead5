use Rattle.std.proofs.Common.{◌≡◌, length, take, sum_by}
use Rattle.server_core.proofs.gathering.room_for.Given as goal

abbrev pub invariant-loop-thread : goal.invariant-loop-thread
invariant-loop-thread g l = l.count ≡ sum_by (λ t. length t.items) (take l.thread-index l.threads)
