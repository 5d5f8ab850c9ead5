use Rattle.std.proofs.Common.{sym, subst, ◌∙◌}
use Rattle.stored_rows.specs.Tables.{meta, entry, IsMadeAs}
use Rattle.stored_rows.proofs.schema.find_tables.Goals as goal

pub returns-clause-neither : goal.returns-clause-neither
returns-clause-neither c =
    let first = c.named.ensures in
    let second = c.named-2.ensures in (
      λ is. let both = c.found_of.ensures.neither.0 is in record { no_view = c.has_no_view.ensures.0 c.if-not-has_no_view.false; no_meta = sym first ∙ both.0; no_entry = sym second ∙ both.1 },
      λ none. c.found_of.ensures.neither.1 (first ∙ none.no_meta, second ∙ none.no_entry),
    )

pub returns-clause-both : goal.returns-clause-both
returns-clause-both c =
    let first = c.named.ensures in
    let second = c.named-2.ensures in (
      λ is.
          let both = c.found_of.ensures.both.0 is in
          record { no_view = c.has_no_view.ensures.0 c.if-not-has_no_view.false; meta_is = subst (IsMadeAs meta) first both.0; entry_is = subst (IsMadeAs entry) second both.1 },
      λ has. c.found_of.ensures.both.1 (subst (IsMadeAs meta) (sym first) has.meta_is, subst (IsMadeAs entry) (sym second) has.entry_is),
    )
