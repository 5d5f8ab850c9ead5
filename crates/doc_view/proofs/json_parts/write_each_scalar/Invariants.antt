use Rattle.std.proofs.Common.{◌≡◌, ◌++◌, map, take}
use Rattle.json_scalar.specs.Scalar.{scalar_data}
use Rattle.doc_api.specs.Words.{Id, Scalar}
use Rattle.json_text.specs.Tokens.{all_tokens}
use Rattle.doc_view.proofs.json_parts.write_each_scalar.Given as goal

abbrev pub invariant-loop-entry : goal.invariant-loop-entry
invariant-loop-entry l = l.text ≡ l.initial.text ++ all_tokens (map (λ (e : Id × Scalar). scalar_data e.1) (take l.entry-index l.entries))
