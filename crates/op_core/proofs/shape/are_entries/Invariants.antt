use Rattle.std.proofs.Common.{◌≡◌, drop}
use Rattle.std.specs.List.{list_all}
use Rattle.op_core.specs.Shape.{is_entry}
use Rattle.op_core.proofs.shape.are_entries.Given as goal

abbrev pub invariant-loop-at : goal.invariant-loop-at
invariant-loop-at l = list_all is_entry (drop l.at l.front) ≡ list_all is_entry l.front
