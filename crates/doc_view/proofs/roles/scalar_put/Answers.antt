use Rattle.std.proofs.Common.{sym, ap}
use Rattle.std.specs.Prelude.{option_map}
use Rattle.json_scalar.specs.declared.scalar.Val.TheVariants.{Scalar}
use Rattle.doc_view.proofs.Places.{get_place}
use Rattle.doc_view.proofs.roles.scalar_put.Goals as goal

pub returns-in-Some : goal.returns-in-Some
returns-in-Some c =
    ap (option_map Scalar) (sym (get_place c.args.scalars.now c.args.id.now c.in-Some.at c.index-scalars-at.result c.requires c.in-Some.ensures))
