use Rattle.std.proofs.Common.{rules, ◌∷◌, ◌∙◌, sym, ap}
use Rattle.plain_rules.specs.Plain.{is_in, context_of, contexts_of, seen, whole}
use Rattle.plain_rules.specs.declared.context.PlainContext.TheViews.{out-PlainContext, out-roll-PlainContext}
use Rattle.plain_rules.proofs.Contexts.{context_of-roll, context_of-out}
use Rattle.plain_rules.proofs.Descending.{descended}
use Rattle.plain_rules.proofs.context.+descending.Goals as goal

pub follow-returns-clause-done : goal.follow-returns-clause-done
follow-returns-clause-done t c =
    let before = out-PlainContext c.pass.new.context in
    let op = c.args.step.op.now in
    let first = c.args.first.now in
    let deps = is_in c.args.step.dependencies.now in
    let put =
    c.in_ok-put_child.ensures.done ∙ ap (λ y. seen (first, c.descend.new.context) ∷ contexts_of y.children.items) (out-roll-PlainContext _) in
    rw (context_of-roll _, out-roll-PlainContext _)
    (ap (λ l. whole l before.scalars.items before.numbers.items before.marks.items before.order.items) put
    ∙ descended deps op first c.args.rest.now (context_of c.args.context.now) (contexts_of before.children.items) (contexts_of c.take_child-below.new.children.items) before.scalars.items before.numbers.items before.marks.items before.order.items
    (context_of c.take_child-below.result) (context_of c.descend.new.context)
    (sym (context_of-out c.pass.new.context) ∙ (search rules))
    c.take_child-below.ensures.child
    c.take_child-below.ensures.others
    c.in_ok-descend.ensures.done)
