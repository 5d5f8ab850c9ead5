use Rattle.std.proofs.Common.{rules, ◌≡◌, take, [], sym, subst, arith, ap, ◌∙◌, get_or}
use Rattle.crdt_rules.specs.Fits.{Fits}
use Rattle.stored_log.proofs.Logs.{fits_at}
use Rattle.stored_log.proofs.doc.trimmed.Goals as goal

pub append-requires-clause-fits : goal.append-requires-clause-fits
append-requires-clause-fits c =
    let ops = c.args.log.now.operations in
    let entry = c.index-as_slice-at.result in
    let at = c.loop-at.at in
    let is : entry ≡ get_or ops at entry = c.index-as_slice-at.is ∙ ap (λ xs. get_or xs at entry) c.as_slice.ensures in
    let fits : Fits entry (take at ops) = subst (λ e. Fits e (take at ops)) (sym is) (fits_at [] ops at entry c.loop-at.invariant.good (omega (arith, c.loop-at.invariant.within, c.loop-at-test.true))) in
    let cloned : c.in_ok-clone.clone ≡ entry = search rules in
    rw (cloned, c.loop-at.invariant.same) fits
