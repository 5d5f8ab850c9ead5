use Rattle.std.proofs.Common.{sym, ap, ◌∙◌}
use Rattle.std.specs.Prelude.{slice_get}
use Rattle.sqlite_schema.specs.Names.{same_name}
use Rattle.stored_rows.proofs.ListLemmas.{none_found, found_at, got}
use Rattle.stored_rows.proofs.schema.named.Goals as goal

pub returns-in-None : goal.returns-in-None
returns-in-None c = sym (none_found (λ t. same_name t.name c.args.name.now) c.args.schema.now.tables (sym c.in-None.ensures))

pub returns-in-Some : goal.returns-in-Some
returns-in-Some c =
    let at = c.in-Some.at in
    got c.as_slice.result.now at c.get.result c.get.ensures.lookup.0 c.get.ensures.lookup.1 ∙ ap (λ tables. slice_get tables at) c.as_slice.ensures
    ∙ found_at (λ t. same_name t.name c.args.name.now) c.args.schema.now.tables at (sym c.in-Some.ensures)
