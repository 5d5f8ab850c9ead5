use Rattle.std.proofs.Common.{◌≡◌, ◌++◌, map, take}
use Rattle.doc_rules.specs.Shown.{value_entry_data}
use Rattle.json_text.specs.Tokens.{all_tokens}
use Rattle.doc_view.proofs.json_parts.write_entries.Given as goal

abbrev pub invariant-loop-entry : goal.invariant-loop-entry
invariant-loop-entry l = l.text ≡ l.initial.text ++ all_tokens (map value_entry_data (take l.entry-index l.entries))
