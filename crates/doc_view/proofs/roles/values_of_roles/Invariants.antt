use Rattle.std.proofs.Common.{◌≡◌, ◌++◌}
use Rattle.doc_view.specs.TreeValues.{values_of_roles}
use Rattle.doc_view.proofs.roles.values_of_roles.Given as goal

abbrev pub invariant-loop-entry : goal.invariant-loop-entry
invariant-loop-entry l = values_of_roles l.scalars l.fn.roles ≡ l.values.items ++ values_of_roles l.scalars l.entry-iterator
