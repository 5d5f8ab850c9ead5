use Rattle.std.proofs.Common.{◌∙◌, arith}
use Rattle.sqlite.specs.Held.{state}
use Rattle.sqlite.specs.State.{HasCleanDisk}
use Rattle.sqlite_trees.specs.View.{IsClean}
use Rattle.log_copy.specs.Folded.{Reopens}
use Rattle.log_copy.proofs.FoldLemmas.{keeps_reopened}
use Rattle.log_copy.proofs.fold.refolded.Goals as goal

pub returns-else-is_as_before-clause-err : goal.returns-else-is_as_before-clause-err
returns-else-is_as_before-clause-err g c =
    let store = g.S.Store in
    let again = c.in-Ok.again in
    let folded = c.in_ok-store.ensures.ok in
    let still = λ (clean : HasCleanDisk (state store again)). let then : IsClean (store.view c.in_ok-store.store) = omega (arith, c.in-Ok.ensures.clean) in then in
    let reopens : Reopens store g.S.Foldable.holds_alone c.args.conn again = record {
      last = c.in_ok-store.store;
      folded = folded;
      still_clean = still;
      opens = λ clean. (c.in-Ok.ensures.opens clean).0;
      same = λ clean. c.in-Ok.ensures.trees clean ∙ (folded.fresh (still clean)).clean ∙ folded.same (still clean);
    } in
    keeps_reopened store g.S.Foldable.holds_alone c.args.conn g.met.S.Store.settled again c.into_store.result reopens c.into_store.ensures.quiet
