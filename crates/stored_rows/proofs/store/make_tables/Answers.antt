use Rattle.std.proofs.lemmas.Result.{on_ok_weaker}
use Rattle.sqlite.specs.Held.{state}
use Rattle.sqlite.proofs.StateLemmas.{survives_weaker}
use Rattle.stored_rows.proofs.MakeLemmas.{making_ran, making_commits}
use Rattle.stored_rows.proofs.store.make_tables.Goals as goal

pub returns-clause-ran : goal.returns-clause-ran
returns-clause-ran g c = c.run_all.ensures.ran

pub returns-clause-ok : goal.returns-clause-ok
returns-clause-ok g c clean = on_ok_weaker c.run_all.result (λ h bare. making_ran g.S.Store c.args.conn.now c.run_all.new.conn bare h) (returns-clause-ran g c clean)

pub returns-clause-crash : goal.returns-clause-crash
returns-clause-crash g c = survives_weaker (state g.S.Store c.args.conn.now) (state g.S.Store c.run_all.new.conn) _ _ (λ clean db h bare. making_commits g.S.Store db c.args.conn.now bare h) c.run_all.ensures.crash

pub returns-clause-err : goal.returns-clause-err
returns-clause-err g c = c.run_all.ensures.err

pub returns-clause-commits : goal.returns-clause-commits
returns-clause-commits g c = c.run_all.ensures.crash
