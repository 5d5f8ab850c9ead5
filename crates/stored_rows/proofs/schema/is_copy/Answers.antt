use Rattle.std.proofs.Common.{sym, ap, ◌∙◌}
use Rattle.sqlite.specs.Schema.{Schema}
use Rattle.stored_rows.specs.Tables.{copy_schema}
use Rattle.stored_rows.proofs.TextLemmas.{from_parts, indexes_are}
use Rattle.stored_rows.proofs.schema.is_copy.Goals as goal

pub returns : goal.returns
returns c = (
  λ none.
      from_parts c.args.schema.now copy_schema (sym c.as_slice.ensures ∙ c.are_tables.ensures.0 c.if-not-are_tables.false)
      (sym c.as_slice-2.ensures ∙ c.are_indexes.ensures.0 c.if-not-are_indexes.false ∙ indexes_are) (c.is_empty.ensures.0 none),
  λ is. c.is_empty.ensures.1 (ap (λ (s : Schema). s.views) is),
)

pub returns-then-not-are_indexes : goal.returns-then-not-are_indexes
returns-then-not-are_indexes c = (
  λ e. absurd cc,
  λ is. let has = c.are_indexes.ensures.1 (c.as_slice-2.ensures ∙ ap (λ (s : Schema). s.indexes) is ∙ sym indexes_are) in let has_not = c.if-not-are_indexes.true in absurd cc,
)
