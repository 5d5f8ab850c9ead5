use Rattle.std.proofs.Common.{◌≡◌, map, drop}
use Rattle.run_core.specs.Names.{all_differ}
use Rattle.run_core.proofs.names.all_differ.Given as goal

abbrev pub invariant-loop-i : goal.invariant-loop-i
invariant-loop-i l = all_differ (map (λ s. s.now) (drop l.i l.texts)) ≡ all_differ (map (λ s. s.now) l.texts)
