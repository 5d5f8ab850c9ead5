use Rattle.std.proofs.Common.{◌≡◌, ℕ, List, Ok, map, sym, ap, ◌∙◌}
use Rattle.std.specs.List.{zip}
use Rattle.std.specs.Arc.{arc_slice_items}
use Rattle.version_vector.specs.Front.{is_ascending}
use Rattle.version_vector.proofs.Steps.{due_copy}
use Rattle.version_vector.proofs.FrontPairs.{zip-parts, length-firsts}
use Rattle.version_vector.proofs.front.Front.with_names.Goals as goal

pub invariant_of-result : goal.invariant_of-result
invariant_of-result c =
    let pairs : List (List ℕ × ℕ) = c.args.pairs.now in
    let names : arc_slice_items c.args.names ≡ map (λ (e : List ℕ × ℕ). e.0) pairs = c.requires in
    let counters : c.in_ok-counters.counters ≡ map (λ (e : List ℕ × ℕ). e.1) pairs =
    due_copy c.from_pairs_beside.result c.in_ok-counters.counters _ c.from_pairs_beside.ensures c.in_ok-counters.was in
    rw (names, counters) (length-firsts pairs, c.ascends-in_order.ensures ∙ ap is_ascending (sym (zip-parts pairs)))

pub returns : goal.returns
returns c other =
    let pairs : List (List ℕ × ℕ) = c.args.pairs.now in
    let names : arc_slice_items c.args.names ≡ map (λ (e : List ℕ × ℕ). e.0) pairs = c.requires in
    let counters : c.in_ok-counters.counters ≡ map (λ (e : List ℕ × ℕ). e.1) pairs =
    due_copy c.from_pairs_beside.result c.in_ok-counters.counters _ c.from_pairs_beside.ensures c.in_ok-counters.was in
    ap Ok ((λ i. zip (names i) (counters i)) ∙ zip-parts pairs)
