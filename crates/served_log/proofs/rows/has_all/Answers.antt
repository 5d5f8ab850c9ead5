use Rattle.std.proofs.Common.{◌≡◌, ℕ, List, ◌<◌, ◌≤◌, [], length, get_or, sym, subst, arith, rules}
use Rattle.std.specs.Borrow.{Bor}
use Rattle.served_log.specs.Totals.{IsStored}
use Rattle.served_log.proofs.Storing.{stored_end, stored_step}
use Rattle.served_log.proofs.rows.has_all.Goals as goal

pub loop-i-preserved : goal.loop-i-preserved
loop-i-preserved g c =
    let at = c.loop-i in
    let docs = (g.L.StoredLog.log c.args.stored.now).docs in
    let none : Bor (List ℕ) = record { ref_ptr = (0, 0); now = [] } in
    let there : at.i < length c.args.totals.now = omega (arith, c.requires, c.loop-i-test.true) in
    let entry : get_or c.args.totals.now at.i c.index-totals-i.result ≡ c.index-totals-i.result = search rules in
    let one = subst (IsStored docs (get_or c.args.names.now at.i none).now) (sym entry) (c.is_stored.ensures c.if-not-is_stored.false) in
    λ rest. at.invariant (stored_step docs c.args.names.now c.args.totals.now at.i none c.index-totals-i.result c.loop-i-test.true there (one, rest))

pub returns : goal.returns
returns g c =
    let at = c.loop-i in
    let past : length c.args.names.now ≤ at.i = search rules in
    let over : length c.args.totals.now ≤ at.i = omega (arith, c.requires, past) in
    λ yes. at.invariant (stored_end (g.L.StoredLog.log c.args.stored.now).docs c.args.names.now c.args.totals.now at.i past over)
