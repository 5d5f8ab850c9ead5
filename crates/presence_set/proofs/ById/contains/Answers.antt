use Rattle.std.proofs.Common.{◌≡◌, ◌<◌, ◌≤◌, ◌∙◌, List, [], ◌∷◌, refl, sym, ap, subst, length, get_or, Bool, true, false, arith}
use Rattle.std.specs.Prelude.{is_some}
use Rattle.doc_api.specs.Words.{Id}
use Rattle.std.proofs.lemmas.Bool.{le-ltb}
use Rattle.crdt_rules.specs.Same.{id_eq}
use Rattle.list_laws.proofs.Bisection.{get-rank, get-missing}
use Rattle.presence_set.specs.ById.{rank, get, contains, IsAscending}
use Rattle.presence_set.proofs.Ascending.{ids_ordered}
use Rattle.presence_set.proofs.ByIdLaws.{contains-get}
use Rattle.presence_set.proofs.ById.contains.Goals as goal

-- something stands at an id where bisection ends, or nowhere
contains-rank : {X : Type 0} (entries : List (Id × X)) (id : Id) (d : Id × X) → IsAscending entries → rank entries id < length entries
    → contains entries id ≡ id_eq (get_or entries (rank entries id) d).0 id
contains-rank {X} entries id d rising within = contains-get entries id ∙ go (id_eq (get_or entries (rank entries id) d).0 id) refl
  where
    go : (here : Bool) → id_eq (get_or entries (rank entries id) d).0 id ≡ here → is_some (get entries id) ≡ here
    go true is = ap is_some (get-rank ids_ordered entries id d within is)
    go false is = ap is_some (get-missing ids_ordered entries id d rising (λ _. is))

contains-past : {X : Type 0} (entries : List (Id × X)) (id : Id) → IsAscending entries → length entries ≤ rank entries id → contains entries id ≡ false
contains-past {X} [] id rising past = refl
contains-past {X} (e ∷ entries) id rising past =
    contains-get (e ∷ entries) id ∙ ap is_some (get-missing ids_ordered (e ∷ entries) id e rising (λ within. absurd (omega (arith, past, within))))

pub returns-then-at-entries : goal.returns-then-at-entries
returns-then-at-entries g c =
    let items = c.args.self.now.0 in
    let id = c.args.id in
    let d = c.index-entries-at.result in
    let rising : IsAscending items = subst IsAscending c.entries-entries.ensures.value c.entries-entries.ensures.ascending in
    let at : c.rank_of-at.result ≡ rank items id = c.rank_of-at.ensures.value ∙ ap (λ l. rank l id) c.entries-entries.ensures.value in
    let within : c.rank_of-at.result < length items = omega (arith, ap length c.entries-entries.ensures.value) in
    let here : c.eq.result ≡ id_eq (get_or items c.rank_of-at.result d).0 id =
    c.eq.ensures ∙ ap (λ l. id_eq (get_or l c.rank_of-at.result d).0 id) c.entries-entries.ensures.value in
    here ∙ ap (λ n. id_eq (get_or items n d).0 id) at ∙ sym (contains-rank items id d rising (subst (λ n. n < length items) at within))

pub returns-else-at-entries : goal.returns-else-at-entries
returns-else-at-entries g c =
    let items = c.args.self.now.0 in
    let id = c.args.id in
    let rising : IsAscending items = subst IsAscending c.entries-entries.ensures.value c.entries-entries.ensures.ascending in
    let at : c.rank_of-at.result ≡ rank items id = c.rank_of-at.ensures.value ∙ ap (λ l. rank l id) c.entries-entries.ensures.value in
    let past : length items ≤ rank items id = omega (arith, at, ap length c.entries-entries.ensures.value) in
    le-ltb c.rank_of-at.result (length c.entries-entries.result.now) c.if-at-entries.false ∙ sym (contains-past items id rising past)
