use Rattle.std.proofs.Common.{◌≡◌, ℕ, List, ◌++◌, map, drop}
use Rattle.std.specs.Io.KnownBytes.{Appends}
use Rattle.served_log.specs.Totals.{total_lines}
use Rattle.served_log.proofs.output.write_totals.Given as goal

abbrev pub invariant-loop-i : goal.invariant-loop-i
invariant-loop-i g l =
    (done : List ℕ) × Appends (g.W.Write.contents l.fn.out) (g.W.Write.contents l.out) done
    × (total_lines (map (λ s. s.now) l.names) l.totals ≡ done ++ total_lines (map (λ s. s.now) (drop l.i l.names)) (drop l.i l.totals))
