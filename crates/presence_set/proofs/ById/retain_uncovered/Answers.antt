use Rattle.std.proofs.Common.{◌∙◌, not, rules, sym, ap, subst}
use Rattle.std.proofs.lemmas.Fn.{filter_same}
use Rattle.version_vector.specs.Front.{covers}
use Rattle.doc_api.specs.Words.{id_cmp}
use Rattle.list_laws.proofs.Rising.{rising-filter}
use Rattle.presence_set.specs.ById.{uncovered, IsAscending}
use Rattle.presence_set.proofs.ById.retain_uncovered.Goals as goal

pub invariant_of-self : goal.invariant_of-self
invariant_of-self g c =
    let left = filter_same _ (λ e. not (covers c.args.front.now e.0)) _ (λ x b f' h. search rules) _ _ c.retain.ensures.filtered in
    subst IsAscending (sym left) (rising-filter id_cmp (λ e. e.0) (λ e. not (covers c.args.front.now e.0)) _ c.self.invariant)

pub returns : goal.returns
returns g c =
    let left = filter_same _ (λ e. not (covers c.args.front.now e.0)) _ (λ x b f' h. search rules) _ _ c.retain.ensures.filtered in
    λ i. ((left ∙ ap (λ now. uncovered c.args.front.now now.0) c.self.view_is) i, (c.retain.ensures.room ∙ ap (λ now. now.1) c.self.view_is) i)
