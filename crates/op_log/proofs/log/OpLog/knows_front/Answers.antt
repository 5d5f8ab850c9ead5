use Rattle.std.proofs.Common.{◌≡◌, ◌+◌, ◌<◌, ℕ, List, suc, [], Bool, ◌&&◌, length, drop, get_or, true, sym, ap, subst, ◌∙◌, arith}
use Rattle.std.specs.List.{list_all}
use Rattle.std.proofs.lemmas.List.{get_or_default}
use Rattle.op_log.specs.Known.{is_pair_known}
use Rattle.op_log.proofs.Pairs.{all_from}
use Rattle.op_log.proofs.log.OpLog.knows_front.Goals.{then-not-is_pair_below+else-has_looked_long+else-not-knows_entry, else-not-is_pair_below}
use Rattle.op_log.proofs.log.OpLog.knows_front.Goals as goal

pub returns-then-has_looked_long : goal.returns-then-has_looked_long
returns-then-has_looked_long c = c.knows_rest.ensures ∙ c.loop-at.invariant

pub returns-then-not-knows_entry : goal.returns-then-not-knows_entry
returns-then-not-knows_entry c =
    let front = c.args.front.now in
    let at = c.loop-at.at in
    let test : List ℕ × ℕ → Bool = is_pair_known front c.args.self.now.operations in
    let within : at < length front = subst (λ (n : ℕ). at < n) c.len-at-end.ensures c.loop-at-test.true in
    let pair : List ℕ × ℕ = get_or front at ([], 0) in
    ap (λ b. b && list_all test (drop (suc at) front)) (sym c.if-not-knows_entry.true ∙ c.knows_entry.ensures ∙ ap test (c.pair_at.ensures ([], 0)))
    ∙ sym (all_from test front at pair within (get_or_default front at ([], 0) pair within))
    ∙ c.loop-at.invariant

pub loop-at-preserved : goal.loop-at-preserved
loop-at-preserved c =
    let one : c.loop-at.at + 1 ≡ suc c.loop-at.at = omega arith in
    let front = c.args.front.now in
    let at = c.loop-at.at in
    let test : List ℕ × ℕ → Bool = is_pair_known front c.args.self.now.operations in
    let within : at < length front = subst (λ (n : ℕ). at < n) c.len-at-end.ensures c.loop-at-test.true in
    let pair : List ℕ × ℕ = get_or front at ([], 0) in
    let known : test pair ≡ true =
    elim c.if-not-is_pair_below.branch [
      | then-not-is_pair_below+else-has_looked_long+else-not-knows_entry w ↦ ap test (sym (w.pair_at.ensures ([], 0))) ∙ sym w.knows_entry.ensures ∙ w.if-not-knows_entry.false
      | else-not-is_pair_below w ↦ c.is_pair_below.ensures w.if-not-is_pair_below.false
    ] in
    rw one
    (ap (λ b. b && list_all test (drop (suc at) front)) (sym known)
    ∙ sym (all_from test front at pair within (get_or_default front at ([], 0) pair within))
    ∙ c.loop-at.invariant)
