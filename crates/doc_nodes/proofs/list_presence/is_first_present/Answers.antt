use Rattle.std.proofs.Common.{Contains, refl, sym, subst}
use Rattle.list_laws.proofs.Members.{Contains-here}
use Rattle.doc_nodes.proofs.list_presence.is_first_present.Goals as goal

pub is_present-requires : goal.is_present-requires
is_present-requires c =
    let first = c.in-Some.first.now in
    let rest = c.in-Some.field-0-1.now in
    c.requires first (subst (λ l. Contains l first) (sym c.in-Some.ensures.cases.0) (Contains-here rest refl))
