use Rattle.std.proofs.Common.{◌≡◌, Bool, true, false, not, nat_eq, refl, sym, ◌∙◌}
use lib.Pointwise.{pointwise, bytes_decides}
use Rattle.stored_log.proofs.text.operation_of.Goals as goal

same_where_not_other : (b : Bool) → false ≡ not b → b ≡ true
same_where_not_other true h = refl
same_where_not_other false h = h

pub returns-clause-ok : goal.returns-clause-ok
returns-clause-ok c =
    let same : pointwise nat_eq c.as_str.result.now c.args.text.now ≡ true = same_where_not_other _ c.if-ne.ensures in
    sym c.in_ok-again.ensures.ok ∙ sym c.as_str.ensures.value ∙ (bytes_decides c.as_str.result.now c.args.text.now).0 same
