use Rattle.std.proofs.Common.{true≢false, sym, subst, ◌∙◌}
use Rattle.doc_view.proofs.Places.{IsOf, get_no_place}
use Rattle.doc_view.proofs.roles.sought_place.Goals as goal

pub returns-else-is_at : goal.returns-else-is_at
returns-else-is_at c =
    let scalars = c.args.scalars.now in
    let id = c.args.id.now in
    get_no_place scalars id c.requires (λ here.
    true≢false (sym (c.is_at.ensures.1 (subst (IsOf scalars id) (sym c.rank_of-at.ensures.value) here)) ∙ c.if-is_at.false))
