use Rattle.std.proofs.Common.{◌≡◌, true, ap}
use Rattle.sqlite.specs.Schema.{Schema}
use Rattle.stored_rows.specs.Tables.{no_schema}
use Rattle.stored_rows.proofs.TextLemmas.{from_parts}
use Rattle.stored_rows.proofs.schema.is_bare.Goals.{then-is_empty, else-is_empty}
use Rattle.stored_rows.proofs.schema.is_bare.Goals as goal

pub returns-then-is_empty-2 : goal.returns-then-is_empty-2
returns-then-is_empty-2 c = elim c.if-is_empty.branch [
  | then-is_empty w ↦
      let both : w.is_empty-then-is_empty.result ≡ true = cc in (
        λ none. from_parts c.args.schema.now no_schema (c.is_empty.ensures.0 w.if-is_empty.true) (w.is_empty-then-is_empty.ensures.0 both) (c.is_empty-then-is_empty-2.ensures.0 none),
        λ is. c.is_empty-then-is_empty-2.ensures.1 (ap (λ (s : Schema). s.views) is),
      )
  | else-is_empty w ↦ absurd cc
]
