use Rattle.std.proofs.Common.{rules, ◌≡◌, ◌++◌, ◌∷◌, ◌∙◌, sym, ap}
use Rattle.std.proofs.lemmas.List.{nil_from_length}
use Rattle.presence_set.specs.Blocks.{pairs_in}
use Rattle.presence_set.proofs.blocks.EntriesIterator.next.Goals as goal

pub returns : goal.returns
returns g c =
    let entries = c.self.inside.entries.now in
    let blocks = c.self.inside.blocks.now in
    let first = c.in_ok-first.first.now in
    let rest = c.in_ok-first.rest.now in
    let later = c.in_ok-block.later.now in
    let steps : c.args.self.now ≡ first ∷ (rest ++ pairs_in later) =
    sym c.self.view_is ∙ ap (λ l. l ++ pairs_in blocks) (nil_from_length entries c.in_default.ensures.cases) ∙ ap pairs_in c.in_ok-block.ensures.cases.0
    ∙ ap (λ l. l ++ pairs_in later) (sym c.entries.ensures.value ∙ c.in_ok-first.ensures.cases.0) in
    record { steps = steps; goes = search (rules, steps) }
