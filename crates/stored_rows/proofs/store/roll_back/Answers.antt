use Rattle.sqlite.specs.Held.{state}
use Rattle.sqlite.proofs.StateLemmas.{survives_weaker}
use Rattle.stored_rows.proofs.StateLemmas.{rollback_commits}
use Rattle.stored_rows.proofs.ModeLemmas.{rolls_back}
use Rattle.stored_rows.proofs.store.roll_back.Goals as goal

pub returns-clause-answer : goal.returns-clause-answer
returns-clause-answer g c clean = c.execute.ensures.runs clean

pub returns-clause-crash : goal.returns-clause-crash
returns-clause-crash g c =
    let old = state g.S.Store c.args.conn.now in
    survives_weaker old (state g.S.Store c.execute.new.self) _ _ (λ clean db h. rollback_commits old db h) c.execute.ensures.survives

pub returns-clause-ended : goal.returns-clause-ended
returns-clause-ended g c clean = rolls_back (state g.S.Store c.args.conn.now) (state g.S.Store c.execute.new.self) c.execute.result (returns-clause-answer g c clean)
