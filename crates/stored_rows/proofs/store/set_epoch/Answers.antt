use Rattle.sqlite.specs.Held.{state}
use Rattle.sqlite.proofs.StateLemmas.{survives_weaker}
use Rattle.stored_rows.proofs.StateLemmas.{sets_the_epoch, epoch_commits}
use Rattle.stored_rows.proofs.store.set_epoch.Goals as goal

pub returns-clause-answer : goal.returns-clause-answer
returns-clause-answer g c clean = rw c.params-to_sql.ensures at (c.execute.ensures.runs clean)

pub returns-clause-ok : goal.returns-clause-ok
returns-clause-ok g c clean =
    sets_the_epoch (state g.S.Store c.args.conn.now) (state g.S.Store c.execute.new.self) c.args.epoch c.execute.result (returns-clause-answer g c clean)

pub returns-clause-crash : goal.returns-clause-crash
returns-clause-crash g c =
    let old = state g.S.Store c.args.conn.now in
    survives_weaker old (state g.S.Store c.execute.new.self) _ _ (λ clean db h was serves. epoch_commits was c.args.epoch old serves db h) (rw c.params-to_sql.ensures at c.execute.ensures.survives)

pub returns-clause-commits : goal.returns-clause-commits
returns-clause-commits g c = rw c.params-to_sql.ensures at c.execute.ensures.survives
