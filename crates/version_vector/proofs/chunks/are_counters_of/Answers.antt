use Rattle.std.proofs.Common.{rules, ◌≡◌, ◌<◌, ℕ, List, length, map, get_or, sym, ap, ◌∙◌, subst}
use Rattle.std.proofs.lemmas.List.{length-map, take_more_same, get_or-map}
use Rattle.version_vector.proofs.chunks.are_counters_of.Goals as goal

pub loop-at-preserved : goal.loop-at-preserved
loop-at-preserved c =
    let counters = c.args.counters.now in
    let pairs = c.args.pairs.now in
    let at = c.loop-at.at in
    let pair = c.index-pairs-at.result in
    let as_many : length counters ≡ length pairs = search rules in
    let there : at < length pairs = subst (λ (n : ℕ). at < n) as_many c.loop-at-test.true in
    let behind : at < length (map (λ (e : List ℕ × ℕ). e.1) pairs) = subst (λ (n : ℕ). at < n) (sym (length-map pairs (λ (e : List ℕ × ℕ). e.1))) there in
    let same : get_or counters at 0 ≡ pair.1 = search rules in
    take_more_same counters (map (λ (e : List ℕ × ℕ). e.1) pairs) at 0 c.loop-at-test.true behind c.loop-at.invariant
    (same ∙ ap (λ (e : List ℕ × ℕ). e.1) c.index-pairs-at.is ∙ sym (get_or-map (λ (e : List ℕ × ℕ). e.1) pairs at pair 0 there))
