use Rattle.std.proofs.Common.{rules, ◌≡◌, ◌++◌, take, Err, sym, subst}
use Rattle.crdt_rules.specs.Fits.{Fits}
use Rattle.stored_log.specs.declared.fault.Fault.TheVariants.{Refused}
use Rattle.stored_log.proofs.Logs.{fits_at}
use Rattle.stored_log.proofs.doc.append_all.Goals as goal

pub returns-in_err-append_one-clause-refused : goal.returns-in_err-append_one-clause-refused
returns-in_err-append_one-clause-refused c h good =
    let old = c.args.log.now.operations in
    let entry = c.index-entries-at.result in
    let before = old ++ take c.loop-at.at c.args.entries.now in
    let fits : Fits entry before = subst (λ e. Fits e before) (sym c.index-entries-at.is) (fits_at old c.args.entries.now c.loop-at.at entry good c.loop-at-test.true) in
    let same : c.append_one.result ≡ Err Refused = search rules in
    c.append_one.ensures.refused same (rw c.loop-at.invariant.appended fits)
