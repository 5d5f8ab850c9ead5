use Rattle.std.proofs.Common.{[], ◌∷◌, Contains, refl, sym, subst, arith}
use Rattle.std.proofs.lemmas.List.Elements.{Contains-append_left, Contains-append_right}
use Rattle.list_laws.proofs.Members.{Contains-here}
use Rattle.doc_nodes.proofs.list_presence.+is_any_present.Goals as goal

pub is_present-requires : goal.is_present-requires
is_present-requires t c =
    let last = c.in-Some.last.now in
    let rest = c.in-Some.rest.now in
    c.requires last
    (subst (λ l. Contains l last) (sym c.in-Some.ensures.cases.0) (Contains-append_right rest (last ∷ []) last (Contains-here [] refl)))

pub is_any_present-requires : goal.is_any_present-requires
is_any_present-requires t c =
    let last = c.in-Some.last.now in
    let rest = c.in-Some.rest.now in (
      omega (arith, c.in-Some.ensures.cases.1),
      λ e there. c.requires e (subst (λ l. Contains l e) (sym c.in-Some.ensures.cases.0) (Contains-append_left rest (last ∷ []) e there)),
    )
