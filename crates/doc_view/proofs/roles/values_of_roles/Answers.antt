use Rattle.std.proofs.Common.{◌++◌, [], append_assoc, append-nil, sym, ap, ◌∙◌}
use Rattle.presence_set.specs.ById.{get}
use Rattle.doc_rules.specs.Role.{value_in}
use Rattle.doc_view.specs.TreeValues.{values_of_roles, with_value}
use Rattle.doc_view.proofs.RoleValues.{with_value-append}
use Rattle.doc_view.proofs.roles.values_of_roles.Goals as goal

pub loop-entry-init : goal.loop-entry-init
loop-entry-init c =
    let scalars = c.args.scalars.now in
    ap (λ l. values_of_roles scalars l) (sym c.into_iter-entry-iterator.ensures.into_iter_gives)
    ∙ ap (λ vs. vs ++ values_of_roles scalars c.into_iter-entry-iterator.result) (sym c.in_ok-values.ensures.items)

pub loop-entry-preserved : goal.loop-entry-preserved
loop-entry-preserved c =
    let e = c.in-Some.entry.now in
    let scalars = c.args.scalars.now in
    let old = c.loop-entry.values.items in
    let rest = values_of_roles scalars c.next.new.self in
    c.loop-entry.invariant ∙ ap (λ l. old ++ values_of_roles scalars l) c.in-Some.ensures.steps
    ∙ ap (λ l. old ++ l) (with_value-append e.0 (value_in e.1 (get scalars e.0)) rest)
    ∙ sym (append_assoc old (with_value e.0 (value_in e.1 (get scalars e.0)) []) rest)
    ∙ ap (λ l. l ++ rest) (sym (c.in_ok-push_value.ensures ∙ ap (λ o. old ++ with_value e.0 o []) c.value_put.ensures))

pub returns : goal.returns
returns c =
    let scalars = c.args.scalars.now in
    let values = c.loop-entry.values.items in
    c.from.ensures ∙ sym (c.loop-entry.invariant ∙ ap (λ l. values ++ values_of_roles scalars l) c.in-None.ensures.steps.0 ∙ append-nil values)
