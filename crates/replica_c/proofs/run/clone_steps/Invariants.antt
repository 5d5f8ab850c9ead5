use Rattle.std.proofs.Common.{◌≡◌, ◌≤◌, length, take, vec_capacity}
use Rattle.replica_c.proofs.run.clone_steps.Given as goal

abbrev pub invariant-loop-step : goal.invariant-loop-step
invariant-loop-step l = record {
  copied : l.copy.items ≡ take l.step-index l.steps;
  room : length l.steps ≤ vec_capacity l.copy;
}
