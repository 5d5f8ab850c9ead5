use Rattle.std.proofs.Common.{rules, ◌≡◌, ◌<◌, ℕ, List, true, length, map, get_or, nat_eq, sym, ◌∙◌, subst}
use Rattle.std.proofs.lemmas.List.{length-map, take_more_same, get_or-map}
use lib.Pointwise.{pointwise, bytes_decides}
use Rattle.version_vector.proofs.front.are_names_of.Goals as goal

pub loop-at-preserved : goal.loop-at-preserved
loop-at-preserved c =
    let names = c.args.names.now in
    let pairs = c.args.pairs.now in
    let at = c.loop-at.at in
    let name = c.index-names-at.result in
    let pair = c.index-pairs-at.result in
    let as_many : length names ≡ length pairs = search rules in
    let there : at < length pairs = subst (λ (n : ℕ). at < n) as_many c.loop-at-test.true in
    let behind : at < length (map (λ (e : List ℕ × ℕ). e.0) pairs) = subst (λ (n : ℕ). at < n) (sym (length-map pairs (λ (e : List ℕ × ℕ). e.0))) there in
    let bytes : pointwise nat_eq name (get_or pairs at pair).0 ≡ true = search rules in
    take_more_same names (map (λ (e : List ℕ × ℕ). e.0) pairs) at name c.loop-at-test.true behind c.loop-at.invariant
    (sym c.index-names-at.is ∙ (bytes_decides name (get_or pairs at pair).0).0 bytes ∙ sym (get_or-map (λ (e : List ℕ × ℕ). e.0) pairs at pair name there))
