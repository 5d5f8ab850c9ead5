use Rattle.std.proofs.Common.{◌≡◌, ℕ, ◌<◌, ◌≤◌, List, length, true, false, sym, ap, subst, ◌∙◌, rules}
use Rattle.version_vector.specs.Front.{covers, id_of}
use Rattle.version_vector.proofs.Steps.{all_more, all_fails, all_done}
use Rattle.version_vector.proofs.front.covers_all.Goals as goal

pub loop-at-preserved : goal.loop-at-preserved
loop-at-preserved c =
    let pair : List ℕ × ℕ = c.pair_at-name.result in
    let within : c.loop-at.at < length c.args.other.now = subst (λ (n : ℕ). c.loop-at.at < n) c.len-at-end.ensures c.loop-at-test.true in
    let holds : covers c.args.front.now (id_of pair) ≡ true = search rules in
    all_more (λ (e : List ℕ × ℕ). covers c.args.front.now (id_of e)) c.args.other.now c.loop-at.at pair within
    (ap (λ (e : List ℕ × ℕ). covers c.args.front.now (id_of e)) (sym (c.pair_at-name.ensures pair)) ∙ holds) c.loop-at.invariant

pub returns-then-not-covers : goal.returns-then-not-covers
returns-then-not-covers c =
    let pair : List ℕ × ℕ = c.pair_at-name.result in
    let within : c.loop-at.at < length c.args.other.now = subst (λ (n : ℕ). c.loop-at.at < n) c.len-at-end.ensures c.loop-at-test.true in
    let fails : covers c.args.front.now (id_of pair) ≡ false = search rules in
    all_fails (λ (e : List ℕ × ℕ). covers c.args.front.now (id_of e)) c.args.other.now c.loop-at.at pair within
    (ap (λ (e : List ℕ × ℕ). covers c.args.front.now (id_of e)) (sym (c.pair_at-name.ensures pair)) ∙ fails) c.loop-at.invariant

pub returns : goal.returns
returns c =
    all_done (λ (e : List ℕ × ℕ). covers c.args.front.now (id_of e)) c.args.other.now c.loop-at.at
    (subst (λ (n : ℕ). n ≤ c.loop-at.at) c.len-at-end.ensures c.loop-at-test.false) c.loop-at.invariant
