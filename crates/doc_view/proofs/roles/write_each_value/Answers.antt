use Rattle.std.proofs.Common.{◌++◌, [], map, append_assoc, append-nil, sym, ap, ◌∙◌}
use Rattle.std.proofs.lemmas.List.{map-append}
use Rattle.json_text.specs.Tokens.{all_tokens}
use Rattle.json_text.proofs.Texts.{all_tokens-append}
use Rattle.presence_set.specs.ById.{get}
use Rattle.doc_rules.specs.Encoded.{conflict_data}
use Rattle.doc_rules.specs.Role.{value_in}
use Rattle.doc_view.specs.TreeValues.{values_of_roles, with_value}
use Rattle.doc_view.proofs.RoleValues.{with_value-append}
use Rattle.doc_view.proofs.roles.write_each_value.Goals as goal

pub loop-entry-init : goal.loop-entry-init
loop-entry-init c =
    ap (λ l. c.args.text.now ++ all_tokens (map conflict_data (values_of_roles c.args.scalars.now l))) (sym c.into_iter-entry-iterator.ensures.into_iter_gives)

pub loop-entry-preserved : goal.loop-entry-preserved
loop-entry-preserved c =
    let e = c.in-Some.entry.now in
    let scalars = c.args.scalars.now in
    let old = c.loop-entry.text in
    let value = value_in e.1 (get scalars e.0) in
    let one = all_tokens (map conflict_data (with_value e.0 value [])) in
    let rest = all_tokens (map conflict_data (values_of_roles scalars c.next.new.self)) in
    c.loop-entry.invariant ∙ ap (λ l. old ++ all_tokens (map conflict_data (values_of_roles scalars l))) c.in-Some.ensures.steps
    ∙ ap (λ vs. old ++ all_tokens vs)
    (ap (map conflict_data) (with_value-append e.0 value (values_of_roles scalars c.next.new.self))
    ∙ map-append conflict_data (with_value e.0 value []) (values_of_roles scalars c.next.new.self))
    ∙ ap (λ ts. old ++ ts) (all_tokens-append (map conflict_data (with_value e.0 value [])) (map conflict_data (values_of_roles scalars c.next.new.self)))
    ∙ sym (append_assoc old one rest)
    ∙ ap (λ ts. ts ++ rest)
    (sym (c.in_ok-write_value.ensures ∙ ap (λ o. old ++ all_tokens (map conflict_data (with_value e.0 o []))) c.value_put.ensures))

pub returns : goal.returns
returns c =
    sym
    (c.loop-entry.invariant ∙ ap (λ l. c.loop-entry.text ++ all_tokens (map conflict_data (values_of_roles c.args.scalars.now l))) c.in-None.ensures.steps.0
    ∙ append-nil c.loop-entry.text)
