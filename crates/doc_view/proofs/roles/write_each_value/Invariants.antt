use Rattle.std.proofs.Common.{◌≡◌, ◌++◌, map}
use Rattle.json_text.specs.Tokens.{all_tokens}
use Rattle.doc_rules.specs.Encoded.{conflict_data}
use Rattle.doc_view.specs.TreeValues.{values_of_roles}
use Rattle.doc_view.proofs.roles.write_each_value.Given as goal

abbrev pub invariant-loop-entry : goal.invariant-loop-entry
invariant-loop-entry l =
    l.initial.text ++ all_tokens (map conflict_data (values_of_roles l.scalars l.fn.roles))
    ≡ l.text ++ all_tokens (map conflict_data (values_of_roles l.scalars l.entry-iterator))
