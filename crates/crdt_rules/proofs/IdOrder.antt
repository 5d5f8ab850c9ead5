-- The order of ids ties where they are the same.
use Rattle.std.proofs.Common.{◌≡◌, ◌&&◌, nat_eq, refl, sym, ap, ◌∙◌}
use Rattle.std.specs.Ordering.{is_eq, nat_cmp, ordering_then}
use Rattle.std.specs.Cmp.{unsigned_ties}
use Rattle.std.specs.Cmp.Lexicographic.{slice_cmp}
use Rattle.std.proofs.lemmas.Map.Text.{is_eq-slice_cmp}
use Rattle.std.specs.declared.cmp.Ordering.{Ordering}
use Rattle.std.specs.declared.cmp.Ordering.TheVariants.{Less, Equal, Greater}
use Rattle.lamport_id.specs.Order.{id_cmp}
use Rattle.lamport_id.specs.declared.id.Id.{Id}
use Rattle.crdt_rules.specs.Same.{id_eq}

is_eq-then : (o p : Ordering) → is_eq (ordering_then o p) ≡ (is_eq o && is_eq p)
is_eq-then Less p = refl
is_eq-then Equal p = refl
is_eq-then Greater p = refl

pub is_eq-id_cmp : (a b : Id) → is_eq (id_cmp a b) ≡ id_eq a b
is_eq-id_cmp a b =
    is_eq-then (nat_cmp a.counter b.counter) (slice_cmp nat_cmp a.replica b.replica)
    ∙ ap (λ t. t && is_eq (slice_cmp nat_cmp a.replica b.replica)) (sym (unsigned_ties a.counter b.counter))
    ∙ ap (λ t. nat_eq a.counter b.counter && t) (is_eq-slice_cmp a.replica b.replica)
