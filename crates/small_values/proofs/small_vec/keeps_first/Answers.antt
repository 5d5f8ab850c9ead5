use Rattle.std.proofs.Common.{refl}
use Rattle.std.specs.Fn.{CalledAt}
use Rattle.small_values.proofs.OneElement.{filtered_one}
use Rattle.small_values.proofs.small_vec.keeps_first.Goals as goal

pub returns-clause-filtered : goal.returns-clause-filtered
returns-clause-filtered g c =
    filtered_one (CalledAt g.F.FnMut) c.args.keep c.args.one.now c.keep.result c.keep.new.self c.index-one-0.result c.type_inv.one
    (record { shown = _; shows = refl; called = c.keep.ensures })
