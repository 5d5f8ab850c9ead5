use Rattle.std.proofs.Common.{◌≡◌, map, take}
use Rattle.doc_view.proofs.registers.scalars_of.Given as goal

abbrev pub invariant-loop-entry : goal.invariant-loop-entry
invariant-loop-entry l = l.scalars.items ≡ map (λ e. e.1) (take l.entry-index l.entries)
