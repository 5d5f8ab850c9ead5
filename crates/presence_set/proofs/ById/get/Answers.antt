use Rattle.std.proofs.Common.{◌≡◌, ◌<◌, ◌≤◌, ◌∙◌, Some, None, [], ◌∷◌, List, sym, ap, subst, length, get_or, true, false, arith, refl}
use Rattle.std.proofs.lemmas.List.{get_or_default}
use Rattle.doc_api.specs.Words.{Id}
use Rattle.crdt_rules.specs.Same.{id_eq}
use Rattle.list_laws.proofs.Bisection.{get-rank, get-missing}
use Rattle.presence_set.specs.ById.{rank, get, IsAscending}
use Rattle.presence_set.proofs.Ascending.{ids_ordered}
use Rattle.presence_set.proofs.ById.get.Goals.{else-at-entries-via-then-at-entries+else-eq, else-at-entries-via-else-at-entries}
use Rattle.presence_set.proofs.ById.get.Goals as goal

-- nothing stands at an id that is greater than all
get-past : {X : Type 0} (entries : List (Id × X)) (id : Id) → IsAscending entries → length entries ≤ rank entries id → get entries id ≡ None
get-past [] id rising past = refl
get-past (e ∷ entries) id rising past = get-missing ids_ordered (e ∷ entries) id e rising (λ within. absurd (omega (arith, past, within)))

pub returns-then-eq : goal.returns-then-eq
returns-then-eq g c =
    let items = c.entries-entries.result.now in
    let id = c.args.id.now in
    let at : c.rank_of-at.result ≡ rank items id = c.rank_of-at.ensures.value in
    let d = c.index-entries-at.result in
    let within : c.rank_of-at.result < length items = omega arith in
    let found : id_eq (get_or items (rank items id) d).0 id ≡ true = subst (λ n. id_eq (get_or items n d).0 id ≡ true) at (sym c.if-eq.ensures) in
    let stands = get-rank ids_ordered items id d (subst (λ n. n < length items) at within) found in
    subst (λ l. get l id ≡ Some (get_or items c.rank_of-at.result c.index-entries-at-then-eq.result).1) c.entries-entries.ensures.value
    (stands ∙ ap (λ n. Some (get_or items n d).1) (sym at) ∙ ap (λ e. Some e.1) (get_or_default items c.rank_of-at.result d c.index-entries-at-then-eq.result within))

pub returns-else-at-entries : goal.returns-else-at-entries
returns-else-at-entries g c =
    let items = c.entries-entries.result.now in
    let id = c.args.id.now in
    let rising = c.entries-entries.ensures.ascending in
    let at : c.rank_of-at.result ≡ rank items id = c.rank_of-at.ensures.value in
    subst (λ l. get l id ≡ None) c.entries-entries.ensures.value
    (elim c.else-at-entries.branch [
      | else-at-entries-via-then-at-entries+else-eq w ↦ get-missing ids_ordered items id w.index-entries-at.result rising
          (λ within. subst (λ n. id_eq (get_or items n w.index-entries-at.result).0 id ≡ false) at (sym w.if-eq.ensures))
      | else-at-entries-via-else-at-entries w ↦ get-past items id rising (omega (arith, at, w.if-at-entries.false))
    ])
