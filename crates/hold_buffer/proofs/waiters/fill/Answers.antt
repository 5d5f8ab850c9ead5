use Rattle.std.proofs.Common.{◌∙◌, ◌++◌, ◌∷◌, [], List, ℕ, length, ap, arith, length-append}
use Rattle.hold_buffer.specs.Waiters.{row_at}
use Rattle.hold_buffer.proofs.Keys.{row_more}
use Rattle.hold_buffer.proofs.waiters.fill.Goals as goal

pub returns-in_err-push-clause-same : goal.returns-in_err-push-clause-same
returns-in_err-push-clause-same c n = ap (λ (l : List (List ℕ)). row_at l n) c.in_err-push.ensures.items ∙ c.loop-at.invariant.1 n

pub loop-at-preserved : goal.loop-at-preserved
loop-at-preserved c =
    let rows = c.loop-at.rows.items in
    let more = c.in_ok-push.ensures.items ∙ (λ j. rows ++ c.new.ensures j ∷ []) in (
      (let one = ap length more in omega (arith, one, length-append rows ([] ∷ []), c.loop-at.invariant.0)),
      (λ n. ap (λ (l : List (List ℕ)). row_at l n) more ∙ row_more rows n ∙ c.loop-at.invariant.1 n),
    )

pub returns-clause-same : goal.returns-clause-same
returns-clause-same c = c.loop-at.invariant.1
