use Rattle.std.proofs.Common.{◌≡◌, ℕ, ◌<◌, List, length, true, false, ◌∙◌, sym, ap, subst, arith, rules}
use Rattle.std.specs.List.{zip}
use Rattle.std.specs.Ordering.{is_lt}
use Rattle.std.proofs.lemmas.Fn.{always_returns_same}
use Rattle.std.proofs.lemmas.Slice.Zip.{get_or-zip}
use Rattle.lamport_id.specs.Order.{name_cmp}
use Rattle.version_vector.specs.Front.{reaches}
use Rattle.version_vector.proofs.Fronts.{lesser_first, covers-found, covers-none}
use Rattle.version_vector.proofs.FrontPairs.{length-pairs, names_first, name-at}
use Rattle.version_vector.proofs.front.covers_in_order.Goals as goal

pub returns-then-at-names : goal.returns-then-at-names
returns-then-at-names c =
    let names = c.args.names.now in
    let counters = c.args.counters.now in
    let pairs = zip names counters in
    let id = c.args.id.now in
    let at = c.partition_point-at.result in
    let named : at < length names = c.if-at-names.true in
    let here : at < length counters = omega (arith, c.requires.len, named) in
    let within : at < length pairs = omega (arith, length-pairs names counters c.requires.len, here) in
    let first : List ℕ × ℕ = (c.index-names-at.result, 0) in
    let point =
    c.partition_point-at.ensures.partitioned (λ (n : List ℕ). is_lt (name_cmp n id.replica)) (always_returns_same _ _ _ (λ a r f k. search rules))
    (names_first names counters id.replica c.requires.len (lesser_first pairs id.replica c.requires.ascending)) in
    c.reaches.ensures ∙ (λ i. reaches id (c.index-names-at.is i, c.at.ensures i)) ∙ ap (reaches id) (sym (get_or-zip names counters at first named here))
    ∙ sym
    (covers-found pairs id at first c.requires.ascending
    (λ k d below.
    subst (λ (n : List ℕ). is_lt (name_cmp n id.replica) ≡ true) (sym (name-at names counters k d c.requires.len (omega (arith, below, here))))
    (point.0 k d.0 (omega arith) below))
    (λ d. subst (λ (n : List ℕ). is_lt (name_cmp n id.replica) ≡ false) (sym (name-at names counters at d c.requires.len here)) (point.1 at d.0 (omega arith) named)) within)

pub returns-else-at-names : goal.returns-else-at-names
returns-else-at-names c =
    let names = c.args.names.now in
    let counters = c.args.counters.now in
    let pairs = zip names counters in
    let id = c.args.id.now in
    let point =
    c.partition_point-at.ensures.partitioned (λ (n : List ℕ). is_lt (name_cmp n id.replica)) (always_returns_same _ _ _ (λ a r f k. search rules))
    (names_first names counters id.replica c.requires.len (lesser_first pairs id.replica c.requires.ascending)) in
    sym
    (covers-none pairs id
    (λ k d below.
    let here : k < length counters = omega (arith, length-pairs names counters c.requires.len, below) in
    subst (λ (n : List ℕ). is_lt (name_cmp n id.replica) ≡ true) (sym (name-at names counters k d c.requires.len here))
    (point.0 k d.0 (omega arith) (omega (arith, here, c.requires.len, c.if-at-names.false)))))
