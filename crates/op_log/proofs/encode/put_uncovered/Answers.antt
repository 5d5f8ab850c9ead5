use Rattle.std.proofs.Common.{ℕ, subst, ◌<◌, ◌≤◌, ◌++◌, length, take, map, sym, ap, ◌∙◌, arith}
use Rattle.op_core.specs.Wire.{wire}
use Rattle.json_text.specs.Tokens.{all_tokens}
use Rattle.json_text.proofs.Texts.{told_one_more}
use Rattle.doc_rules.specs.Answers.{since}
use Rattle.op_log.specs.Index.{IsUncovered}
use Rattle.op_log.proofs.Uncovered.{next_told, all_told}
use Rattle.op_log.proofs.encode.put_uncovered.Goals as goal

pub loop-preserved : goal.loop-preserved
loop-preserved c =
    let log = c.args.log.now.operations in
    let all = since c.args.front.now log in
    let op = c.index-as_slice-at.result in
    let at = c.in_ok-at.at in
    let next = c.in_ok-at.ensures.ok in
    let within : at < length log = omega (arith, next.within, c.len.ensures.len, c.if-at-len.false) in
    let told = next_told c.args.front.now log c.loop.from at c.loop.counter c.loop.invariant.1 next.passed
    op within (rw c.as_slice.ensures at c.index-as_slice-at.is) next.uncovered in (
      told_one_more wire c.args.text.now c.loop.text c.put_in.new.text (take c.loop.counter all) op c.loop.invariant.0 c.in_ok-put_in.ensures
          ∙ ap (λ os. c.args.text.now ++ all_tokens (map wire os)) (sym told.0),
      told.1,
      omega (arith, within),
      λ k follows. subst (λ (n : ℕ). IsUncovered c.args.front.now log n) (omega (arith, follows)) next.uncovered,
      c.in_ok-at.ensures.lacks,
    )

pub returns-then-at-len : goal.returns-then-at-len
returns-then-at-len c =
    let log = c.args.log.now.operations in
    let at = c.in_ok-at.at in
    let next = c.in_ok-at.ensures.ok in
    let end : length log ≤ at = omega (arith, c.len.ensures.len, c.if-at-len.true) in
    c.loop.invariant.0
    ∙ ap (λ os. c.args.text.now ++ all_tokens (map wire os))
    (sym (all_told c.args.front.now log c.loop.from at c.loop.counter c.loop.invariant.1 next.passed c.args.limit end (omega (arith, c.loop-test.true))))
