use Rattle.std.proofs.Common.{◌≡◌, List, [], ◌∷◌, ◌++◌, map, rules, refl, ap, ◌∙◌}
use Rattle.std.proofs.lemmas.List.{take_all}
use Rattle.doc_api.specs.Words.{Id, Scalar}
use Rattle.version_vector.proofs.Steps.{map_grown}
use Rattle.doc_view.proofs.registers.scalars_of.Goals as goal

pub loop-entry-preserved : goal.loop-entry-preserved
loop-entry-preserved c =
    let e = c.entry-item.result in
    let pushed : c.push.new.self.items ≡ c.loop-entry.scalars.items ++ e.1 ∷ [] = search rules in
    map_grown (λ (x : Id × Scalar). x.1) c.args.entries.now c.loop-entry.entry-index e _ _ e.1
    c.loop-entry-test.true c.entry-item.is refl c.loop-entry.invariant pushed

pub returns : goal.returns
returns c =
    c.from.ensures ∙ c.loop-entry.invariant
    ∙ ap (λ (es : List (Id × Scalar)). map (λ (x : Id × Scalar). x.1) es) (take_all c.loop-entry.entry-index c.args.entries.now c.loop-entry-test.false)
