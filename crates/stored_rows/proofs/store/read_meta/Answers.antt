use Rattle.std.proofs.Common.{[]}
use Rattle.std.proofs.lemmas.Result.{IfOk-weaker}
use Rattle.sqlite.specs.Held.{state}
use Rattle.sqlite.proofs.StateLemmas.{survives_weaker}
use Rattle.stored_rows.proofs.TextLemmas.{read_meta_text}
use Rattle.stored_rows.proofs.SelectLemmas.{selects_meta, select_commits, select_unchanged}
use Rattle.stored_rows.proofs.ReadLemmas.{reads_meta, sorts_meta}
use Rattle.stored_rows.proofs.store.read_meta.Goals as goal

pub returns-clause-shown : goal.returns-clause-shown
returns-clause-shown g c clean = c.query_all.ensures.ok clean

pub returns-clause-ok : goal.returns-clause-ok
returns-clause-ok g c clean =
    let old = state g.S.Store c.args.conn.now in
    let new = state g.S.Store c.query_all.new.self in
    IfOk-weaker c.query_all.result _ _ (λ rows h. reads_meta old new rows.items h) (returns-clause-shown g c clean)

pub returns-clause-unchanged : goal.returns-clause-unchanged
returns-clause-unchanged g c clean =
    let old = state g.S.Store c.args.conn.now in
    let new = state g.S.Store c.query_all.new.self in
    IfOk-weaker c.query_all.result _ _ (λ rows h. select_unchanged read_meta_text selects_meta [] old new rows.items h) (returns-clause-shown g c clean)

pub returns-clause-crash : goal.returns-clause-crash
returns-clause-crash g c =
    let old = state g.S.Store c.args.conn.now in
    survives_weaker old (state g.S.Store c.query_all.new.self) _ _ (λ clean db h. absurd (select_commits read_meta_text selects_meta [] old db h)) c.query_all.ensures.survives

pub returns-clause-sorted : goal.returns-clause-sorted
returns-clause-sorted g c clean =
    let old = state g.S.Store c.args.conn.now in
    let new = state g.S.Store c.query_all.new.self in
    IfOk-weaker c.query_all.result _ _ (λ rows h. sorts_meta old new rows.items h) (returns-clause-shown g c clean)

pub returns-clause-err : goal.returns-clause-err
returns-clause-err g c clean = c.query_all.ensures.err clean
