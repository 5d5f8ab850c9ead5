use Rattle.std.proofs.Common.{ℕ, subst, ◌<◌, ◌++◌, ◌∷◌, [], List, length, sym, ap, ◌∙◌, arith}
use Rattle.op_core.specs.Op.{Op}
use Rattle.op_log.specs.Index.{IsUncovered}
use Rattle.op_log.proofs.Uncovered.{next_told}
use Rattle.op_log.proofs.clones.first_uncovered.Goals as goal

pub loop-preserved : goal.loop-preserved
loop-preserved c =
    let log = c.args.log.now.operations in
    let op = c.index-as_slice-at.result in
    let at = c.in_ok-at.at in
    let next = c.in_ok-at.ensures.ok in
    let within : at < length log = omega (arith, next.within, c.len-in-loop.ensures.len, c.if-at-len.false) in
    let told = next_told c.args.front.now log c.loop.from at c.loop.counter c.loop.invariant.1 next.passed
    op within (rw c.as_slice.ensures at c.index-as_slice-at.is) next.uncovered in (
      c.in_ok-push_clone.ensures.ok ∙ ap (λ (l : List Op). l ++ op ∷ []) c.loop.invariant.0 ∙ sym told.0,
      told.1,
      omega (arith, within),
      λ k follows. subst (λ (n : ℕ). IsUncovered c.args.front.now log n) (omega (arith, follows)) next.uncovered,
      c.in_ok-at.ensures.lacks,
    )
