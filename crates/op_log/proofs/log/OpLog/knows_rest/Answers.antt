use Rattle.std.proofs.Common.{◌≡◌, ◌+◌, ◌<◌, ℕ, List, suc, [], Bool, ◌&&◌, length, drop, get_or, sym, ap, subst, ◌∙◌, arith}
use Rattle.std.specs.List.{list_all}
use Rattle.std.proofs.lemmas.List.{get_or_default}
use Rattle.op_log.specs.Known.{is_pair_known}
use Rattle.op_log.proofs.Pairs.{all_from}
use Rattle.op_log.proofs.log.OpLog.knows_rest.Goals as goal

pub returns-then-not-knows_pair : goal.returns-then-not-knows_pair
returns-then-not-knows_pair c =
    let front = c.args.front.now in
    let at = c.loop-at.at in
    let test : List ℕ × ℕ → Bool = is_pair_known front c.args.self.now.operations in
    let within : at < length front = subst (λ (n : ℕ). at < n) c.len-at-end.ensures c.loop-at-test.true in
    let pair : List ℕ × ℕ = get_or front at ([], 0) in
    ap (λ b. b && list_all test (drop (suc at) front)) (sym c.if-not-knows_pair.true ∙ c.knows_pair.ensures)
    ∙ sym (all_from test front at pair within (get_or_default front at ([], 0) pair within))
    ∙ c.loop-at.invariant

pub loop-at-preserved : goal.loop-at-preserved
loop-at-preserved c =
    let one : c.loop-at.at + 1 ≡ suc c.loop-at.at = omega arith in
    let front = c.args.front.now in
    let at = c.loop-at.at in
    let test : List ℕ × ℕ → Bool = is_pair_known front c.args.self.now.operations in
    let within : at < length front = subst (λ (n : ℕ). at < n) c.len-at-end.ensures c.loop-at-test.true in
    let pair : List ℕ × ℕ = get_or front at ([], 0) in
    rw one
    (ap (λ b. b && list_all test (drop (suc at) front)) (sym c.if-not-knows_pair.false ∙ c.knows_pair.ensures)
    ∙ sym (all_from test front at pair within (get_or_default front at ([], 0) pair within))
    ∙ c.loop-at.invariant)
