use mir.Val.{SFits}
use mir.Syntax.{w64}
use Rattle.std.proofs.lemmas.Int.{to_z-of_z}
use Rattle.std.proofs.Common.{rules, ap, ◌∙◌, arith}
use Rattle.sqlite.specs.declared.types.Value.TheVariants.{Text}
use Rattle.stored_rows.proofs.Rows.{three_columns, same_text}
use Rattle.stored_rows.proofs.parse.meta_value.Goals as goal

pub returns-clause-ok : goal.returns-clause-ok
returns-clause-ok c =
    let fits : SFits w64 c.in_ok-id.id = search rules in
    rw (to_z-of_z w64 c.in_ok-id.id fits)
    (three_columns c.args.row.now _ _ _ (omega arith) c.in_ok-id.ensures.ok
    (c.in_ok-found.ensures.ok.0 ∙ ap Text (same_text c.in_ok-found.found.now c.args.name.now c.if-ne.ensures)) c.in_ok-value.ensures.ok)
