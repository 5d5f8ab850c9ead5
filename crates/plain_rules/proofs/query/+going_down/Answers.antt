use Rattle.std.proofs.Common.{◌∙◌, sym, ap}
use Rattle.crdt_rules.specs.Context.{child}
use Rattle.crdt_rules.specs.Facts.{context_at}
use Rattle.plain_rules.specs.Plain.{contexts_of, child_in}
use Rattle.plain_rules.proofs.Contexts.{context_of-out}
use Rattle.crdt_rules.proofs.ReplayFacts.{empty_at}
use Rattle.plain_rules.proofs.query.+going_down.Goals as goal

pub below_first-returns-in-None : goal.below_first-returns-in-None
below_first-returns-in-None t c =
    let first = c.args.first.now in
    let rest = c.args.rest.now in
    ap (λ x. context_at (child x first) rest) (context_of-out c.args.context.now)
    ∙ ap (λ l. context_at (child_in (contexts_of l) first) rest) (sym c.as_slice.ensures.value)
    ∙ ap (λ x. context_at x rest) c.in-None.ensures
    ∙ empty_at rest
