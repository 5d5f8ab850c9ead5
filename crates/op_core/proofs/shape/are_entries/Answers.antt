use Rattle.std.proofs.Common.{◌≡◌, ℕ, ◌<◌, ◌≤◌, List, length, true, false, sym, ap, subst, ◌∙◌, rules}
use Rattle.op_core.specs.Shape.{is_entry}
use Rattle.version_vector.proofs.Steps.{all_more, all_fails, all_done}
use Rattle.op_core.proofs.shape.are_entries.Goals as goal

pub loop-at-preserved : goal.loop-at-preserved
loop-at-preserved c =
    let pair : List ℕ × ℕ = c.pair_at-name.result in
    let within : c.loop-at.at < length c.args.front.now = subst (λ (n : ℕ). c.loop-at.at < n) c.len-at-end.ensures c.loop-at-test.true in
    let holds : is_entry pair ≡ true = search rules in
    all_more is_entry c.args.front.now c.loop-at.at pair within (ap is_entry (sym (c.pair_at-name.ensures pair)) ∙ holds) c.loop-at.invariant

pub returns-then-not-is_id : goal.returns-then-not-is_id
returns-then-not-is_id c =
    let pair : List ℕ × ℕ = c.pair_at-name.result in
    let within : c.loop-at.at < length c.args.front.now = subst (λ (n : ℕ). c.loop-at.at < n) c.len-at-end.ensures c.loop-at-test.true in
    let fails : is_entry pair ≡ false = search rules in
    all_fails is_entry c.args.front.now c.loop-at.at pair within (ap is_entry (sym (c.pair_at-name.ensures pair)) ∙ fails) c.loop-at.invariant

pub returns : goal.returns
returns c =
    all_done is_entry c.args.front.now c.loop-at.at (subst (λ (n : ℕ). n ≤ c.loop-at.at) c.len-at-end.ensures c.loop-at-test.false) c.loop-at.invariant
