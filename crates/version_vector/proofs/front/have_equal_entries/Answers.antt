use Rattle.std.proofs.Common.{◌≡◌, ℕ, List, true, false, ◌&&◌, nat_eq, length, sym, ap, ◌∙◌}
use Rattle.std.specs.Arc.{arc_slice_items}
use Rattle.std.specs.Cmp.Lexicographic.{pointwise}
use Rattle.std.specs.Str.{bytes_eq}
use Rattle.version_vector.proofs.FrontPairs.{eq-pairs, same_names}
use Rattle.version_vector.proofs.front.have_equal_entries.Goals as goal

pub are_equal-requires-clause-len : goal.are_equal-requires-clause-len
are_equal-requires-clause-len c = sym c.a.invariant.0 ∙ sym c.len.ensures

pub are_equal-requires-clause-other_len : goal.are_equal-requires-clause-other_len
are_equal-requires-clause-other_len c =
    let names : List (List ℕ) = arc_slice_items c.a.inside.names in
    let others : List (List ℕ) = arc_slice_items c.b.inside.names in
    let same : pointwise bytes_eq names others ≡ true = sym c.eq.ensures ∙ c.if-eq.true in
    sym c.b.invariant.0 ∙ ap length (same_names names others same) ∙ sym c.len.ensures

pub returns-then-eq : goal.returns-then-eq
returns-then-eq c =
    let names : List (List ℕ) = arc_slice_items c.a.inside.names in
    let others : List (List ℕ) = arc_slice_items c.b.inside.names in
    let counters : List ℕ = c.a.inside.counters in
    let more : List ℕ = c.b.inside.counters in
    let same : pointwise bytes_eq names others ≡ true = sym c.eq.ensures ∙ c.if-eq.true in
    rw (← c.a.view_is, ← c.b.view_is) (c.are_equal.ensures ∙ ap (λ b. b && pointwise nat_eq counters more) (sym same)
    ∙ eq-pairs names others counters more c.a.invariant.0 c.b.invariant.0)

pub returns-else-eq : goal.returns-else-eq
returns-else-eq c =
    let names : List (List ℕ) = arc_slice_items c.a.inside.names in
    let others : List (List ℕ) = arc_slice_items c.b.inside.names in
    let counters : List ℕ = c.a.inside.counters in
    let more : List ℕ = c.b.inside.counters in
    let other : pointwise bytes_eq names others ≡ false = sym c.eq.ensures ∙ c.if-eq.false in
    rw (← c.a.view_is, ← c.b.view_is) (c.if-eq.false ∙ ap (λ b. b && pointwise nat_eq counters more) (sym other)
    ∙ eq-pairs names others counters more c.a.invariant.0 c.b.invariant.0)
