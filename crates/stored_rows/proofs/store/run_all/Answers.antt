use Rattle.std.proofs.Common.{◌+◌, [], map, drop, get_or, subst, take_all, Ok, Err, arith}
use Rattle.stored_rows.specs.Statements.{RunsThrough, text_alone}
use Rattle.stored_rows.proofs.RunLemmas.{runs_none, runs_one, runs_next, runs_no_further, one_more, and_rest}
use Rattle.stored_rows.proofs.store.run_all.Goals as goal

pub loop-text-init : goal.loop-text-init
loop-text-init g c = runs_none g.S.Store c.args.conn.now tt

pub loop-text-preserved : goal.loop-text-preserved
loop-text-preserved g c =
    let i = c.loop-text.text-index in
    let one = runs_one g.S.Store (text_alone (get_or c.args.texts.now i (record { ref_ptr = (0, 0); now = [] })).now) c.loop-text.conn c.execute.new.self (Ok c.in_ok-execute.field-0) c.in_ok-execute.ensures.runs c.execute.ensures.survives in
    runs_next g.S.Store (map (λ t. text_alone t.now)) c.args.texts.now i _ (one_more (λ t. text_alone t.now) c.args.texts.now i (record { ref_ptr = (0, 0); now = [] }) (omega arith)) c.args.conn.now c.loop-text.conn c.execute.new.self tt _ tt c.loop-text.invariant one

pub returns-in_err-execute : goal.returns-in_err-execute
returns-in_err-execute g c =
    let i = c.loop-text.text-index in
    let one = runs_one g.S.Store (text_alone (get_or c.args.texts.now i (record { ref_ptr = (0, 0); now = [] })).now) c.loop-text.conn c.execute.new.self (Err c.in_err-execute.field-0.0) c.in_err-execute.ensures.runs c.execute.ensures.survives in
    runs_no_further g.S.Store (map (λ t. text_alone t.now)) c.args.texts.now i _ (one_more (λ t. text_alone t.now) c.args.texts.now i (record { ref_ptr = (0, 0); now = [] }) (omega arith)) c.args.conn.now c.loop-text.conn c.execute.new.self
    (map (λ t. text_alone t.now) (drop (i + 1) c.args.texts.now)) (and_rest (λ t. text_alone t.now) c.args.texts.now (i + 1)) tt _ c.from_residual.result c.from_residual.ensures.1 c.loop-text.invariant one

pub returns : goal.returns
returns g c = subst (λ z. RunsThrough g.S.Store (map (λ t. text_alone t.now) z) c.args.conn.now c.loop-text.conn (Ok tt)) (take_all c.loop-text.text-index c.args.texts.now c.loop-text-test.false) c.loop-text.invariant
