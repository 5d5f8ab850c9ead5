use Rattle.std.proofs.Common.{◌≡◌, ℕ, ◌<◌, Some, length}
use Rattle.std.specs.Prelude.{slice_get}
use Rattle.server_core.specs.declared.due.Due.{Due}
use Rattle.server_core.specs.Pacing.{IsDue, IsPaid}
use Rattle.server_core.proofs.dues.pay_all.Given as goal

-- those before this one are paid, and as much is due of each
abbrev pub invariant-loop-i : goal.invariant-loop-i
invariant-loop-i g l =
    record {
      paid : (k : ℕ) (due : Due) → k < l.i → slice_get l.dues k ≡ Some due → IsPaid l.progress.pace due;
      stay : (document count : ℕ) → IsDue l.fn.dues document count → IsDue l.dues document count;
      length : length l.dues ≡ length l.fn.dues;
    }
