use Rattle.std.proofs.Common.{rules, ◌≡◌, refl, sym, subst, ◌∙◌, [], arith}
use Rattle.std.proofs.lemmas.Result.{err_from_is_err_and}
use Rattle.sqlite.specs.Held.{state}
use Rattle.sqlite.specs.State.{HasCleanDisk, Survives, IsUnchanged, CommitsShowing}
use Rattle.stored_rows.proofs.TextLemmas.{read_entries_text}
use Rattle.stored_rows.specs.Shown.{AreAnswered}
use Rattle.stored_rows.proofs.NextLemmas.{refused_or_memory}
use Rattle.stored_rows.proofs.Reading.{commits_none, has_begun, leaves_all, given_back, reads_on, is_next, shows_none, are_shown, ends_unchanged, all_rows}
use Rattle.stored_rows.proofs.load.read_docs.Goals as goal

pub returns-in_default-clause-crash : goal.returns-in_default-clause-crash
returns-in_default-clause-crash g c =
    let old = state g.S.Store c.args.conn.now in
    let new = state g.S.Store c.query.follows.lender-at-none in
    let held = c.query.follows.holds-at-none in
    let kept : Survives old new (CommitsShowing read_entries_text [] old) = search rules in
    commits_none old new kept

pub rows-init : goal.rows-init
rows-init g c =
    let made = c.in-Ok.ensures in
    (refl, rw c.new-docs.ensures.items (has_begun g.S.Store c.args.conn.now c.args.format c.in-Ok.rows.conn.now made.begun made.mode made.survives))

pub rows-preserved : goal.rows-preserved
rows-preserved g c =
    let moved = c.next.follows.holds-at-none in
    let now = c.next.follows.lender-at-none.conn.now in
    let added = c.in_ok-add_row-in-Ok-Some.ensures in (
      moved.same_reference ∙ c.rows.invariant.0,
      reads_on g.S.Store c.args.conn.now c.args.format c.rows.rows.conn.now now c.rows.docs.items c.rows.invariant.1 moved.survives c.in-Ok-Some.row.now
          (λ late. rw (c.in-Ok-Some.is, c.in-Ok-Some.field-0-is) at (moved.ok late)) (λ late. rw c.in-Ok-Some.is at (moved.same late)) c.add_row.new.docs.items added.ok added.added moved.mode,
    )

pub returns-in_err-add_row-in-Ok-Some-clause-accepts : goal.returns-in_err-add_row-in-Ok-Some-clause-accepts
returns-in_err-add_row-in-Ok-Some-clause-accepts g c clean =
    let moved = c.next.follows.holds-at-none in
    let now = c.next.follows.lender-at-none.conn.now in
    let late : HasCleanDisk (state g.S.Store now) = search rules in
    let exit = err_from_is_err_and c.from_residual.result c.from_residual.ensures.1 in
    rw exit.1 (λ was sound is has holds refused.
    let next = is_next g.S.Store c.args.conn.now c.args.format c.rows.rows.conn.now now c.rows.docs.items c.rows.invariant.1 moved.survives c.in-Ok-Some.row.now
    (λ late. rw (c.in-Ok-Some.is, c.in-Ok-Some.field-0-is) at (moved.ok late)) (λ late. rw c.in-Ok-Some.is at (moved.same late)) was late sound is has holds in
    refused_or_memory _ (c.in_err-add_row-in-Ok-Some.ensures.accepts next.0 next.1 next.2) (sym exit.2 ∙ refused))

pub returns-in_err-add_row-in-Ok-Some-clause-refused : goal.returns-in_err-add_row-in-Ok-Some-clause-refused
returns-in_err-add_row-in-Ok-Some-clause-refused g c clean =
    let moved = c.next.follows.holds-at-none in
    let now = c.next.follows.lender-at-none.conn.now in
    let late : HasCleanDisk (state g.S.Store now) = search rules in
    let exit = err_from_is_err_and c.from_residual.result c.from_residual.ensures.1 in
    rw exit.1 (λ refused. shows_none g.S.Store c.args.conn.now c.args.format c.rows.rows.conn.now now c.rows.docs.items c.rows.invariant.1 moved.survives c.in-Ok-Some.row.now
    (λ late. rw (c.in-Ok-Some.is, c.in-Ok-Some.field-0-is) at (moved.ok late)) (λ late. rw c.in-Ok-Some.is at (moved.same late)) late
    (λ name op next. refused_or_memory _ (c.in_err-add_row-in-Ok-Some.ensures.accepts name op next) (sym exit.2 ∙ refused)))

pub returns-in_err-add_row-in-Ok-Some-clause-crash : goal.returns-in_err-add_row-in-Ok-Some-clause-crash
returns-in_err-add_row-in-Ok-Some-clause-crash g c =
    let moved = c.next.follows.holds-at-none in
    let now = c.next.follows.lender-at-none.conn.now in
    let kept = leaves_all g.S.Store c.args.conn.now c.args.format c.rows.rows.conn.now now c.rows.docs.items c.rows.invariant.1 moved.survives in
    let same : c.conn-in_err-add_row-in-Ok-Some-1.given.0 ≡ now = search rules in
    given_back g.S.Store (state g.S.Store c.args.conn.now) _ now c.conn-in_err-add_row-in-Ok-Some-1.given.0 kept same

pub returns-in-Ok-None-clause-shown : goal.returns-in-Ok-None-clause-shown
returns-in-Ok-None-clause-shown g c clean =
    let moved = c.next.follows.holds-at-none in
    let now = c.next.follows.lender-at-none.conn.now in
    let late : HasCleanDisk (state g.S.Store now) = search rules in
    let before = c.rows.invariant.1 in
    let ended = λ (late : HasCleanDisk (state g.S.Store now)). (rw (c.in-Ok-None.is, c.in-Ok-None.field-0-is) at (moved.ok late)) read_entries_text [] before.given (before.reads (omega (arith, moved.survives.clean))).0 in
    let shown = are_shown g.S.Store c.args.conn.now c.args.format c.rows.rows.conn.now now c.rows.docs.items before moved.survives ended late in
    let same : c.conn-in-Ok-None-1.given.0 ≡ now = search rules in
    subst (λ h. AreAnswered g.S.Store c.args.conn.now h c.rows.docs.items) (sym same) shown

pub returns-in-Ok-None-clause-unchanged : goal.returns-in-Ok-None-clause-unchanged
returns-in-Ok-None-clause-unchanged g c clean =
    let moved = c.next.follows.holds-at-none in
    let now = c.next.follows.lender-at-none.conn.now in
    let late : HasCleanDisk (state g.S.Store now) = search rules in
    let before = c.rows.invariant.1 in
    let ended = λ (late : HasCleanDisk (state g.S.Store now)). (rw (c.in-Ok-None.is, c.in-Ok-None.field-0-is) at (moved.ok late)) read_entries_text [] before.given (before.reads (omega (arith, moved.survives.clean))).0 in
    let kept = ends_unchanged g.S.Store c.args.conn.now c.args.format c.rows.rows.conn.now now c.rows.docs.items before moved.survives ended late in
    let same : c.conn-in-Ok-None-1.given.0 ≡ now = search rules in
    subst (λ h. IsUnchanged (state g.S.Store c.args.conn.now) (state g.S.Store h)) (sym same) kept

pub returns-in-Ok-None-clause-ok : goal.returns-in-Ok-None-clause-ok
returns-in-Ok-None-clause-ok g c clean has =
    let moved = c.next.follows.holds-at-none in
    let now = c.next.follows.lender-at-none.conn.now in
    let late : HasCleanDisk (state g.S.Store now) = search rules in
    let before = c.rows.invariant.1 in
    let ended = λ (late : HasCleanDisk (state g.S.Store now)). (rw (c.in-Ok-None.is, c.in-Ok-None.field-0-is) at (moved.ok late)) read_entries_text [] before.given (before.reads (omega (arith, moved.survives.clean))).0 in
    all_rows g.S.Store c.args.conn.now c.args.format c.rows.rows.conn.now now c.rows.docs.items before moved.survives ended late has

pub returns-in-Ok-None-clause-crash : goal.returns-in-Ok-None-clause-crash
returns-in-Ok-None-clause-crash g c =
    let moved = c.next.follows.holds-at-none in
    let now = c.next.follows.lender-at-none.conn.now in
    let kept = leaves_all g.S.Store c.args.conn.now c.args.format c.rows.rows.conn.now now c.rows.docs.items c.rows.invariant.1 moved.survives in
    let same : c.conn-in-Ok-None-1.given.0 ≡ now = search rules in
    given_back g.S.Store (state g.S.Store c.args.conn.now) _ now c.conn-in-Ok-None-1.given.0 kept same

pub returns-in-Err-clause-crash : goal.returns-in-Err-clause-crash
returns-in-Err-clause-crash g c =
    let moved = c.next.follows.holds-at-none in
    let now = c.next.follows.lender-at-none.conn.now in
    let kept = leaves_all g.S.Store c.args.conn.now c.args.format c.rows.rows.conn.now now c.rows.docs.items c.rows.invariant.1 moved.survives in
    let same : c.conn-in-Err-1.given.0 ≡ now = search rules in
    given_back g.S.Store (state g.S.Store c.args.conn.now) _ now c.conn-in-Err-1.given.0 kept same

pub returns-clause-crash : goal.returns-clause-crash
returns-clause-crash g c =
    let kept = c.rows.invariant.1.crash in
    let same : c.conn-2-1.given.0 ≡ c.rows.rows.conn.now = search rules in
    given_back g.S.Store (state g.S.Store c.args.conn.now) _ c.rows.rows.conn.now c.conn-2-1.given.0 kept same
