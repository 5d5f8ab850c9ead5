use Rattle.std.proofs.Common.{rules, ◌∙◌, ◌≡◌, sym, ap, subst, length, ◌≤◌, ◌<◌, slice_index_or}
use Rattle.std.specs.List.{remove}
use Rattle.plain_rules.specs.Plain.{context_of, contexts_of, made, child_in, place_of_child}
use Rattle.plain_rules.proofs.Descending.{child_at, made-context, child_missing, others_stay}
use Rattle.plain_rules.proofs.context.take_child.Goals as goal

pub returns-then-at-len-clause-child : goal.returns-then-at-len-clause-child
returns-then-at-len-clause-child c =
    let children = c.args.children.now.items in
    let key = c.args.key.now in
    let at : c.child_place-at.result ≡ place_of_child children key = c.child_place-at.ensures.value ∙ ap (λ l. place_of_child l key) c.as_slice.ensures.value in
    let within : c.child_place-at.result < length children = search rules in
    ap (λ x. context_of x.1) (c.remove.ensures.value ∙ ap (λ n. slice_index_or children n c.remove.result) at)
    ∙ made-context _
    ∙ ap made (child_at key children c.remove.result (subst (λ n. n < length children) at within))

pub returns-then-at-len-clause-others : goal.returns-then-at-len-clause-others
returns-then-at-len-clause-others c =
    let children = c.args.children.now.items in
    let key = c.args.key.now in
    let at : c.child_place-at.result ≡ place_of_child children key = c.child_place-at.ensures.value ∙ ap (λ l. place_of_child l key) c.as_slice.ensures.value in
    λ t other.
    ap (λ l. child_in (contexts_of l) t) (c.remove.ensures.items ∙ ap (remove children) at)
    ∙ others_stay key children t other

pub returns-else-at-len-clause-child : goal.returns-else-at-len-clause-child
returns-else-at-len-clause-child c =
    let children = c.args.children.now.items in
    let key = c.args.key.now in
    let at : c.child_place-at.result ≡ place_of_child children key = c.child_place-at.ensures.value ∙ ap (λ l. place_of_child l key) c.as_slice.ensures.value in
    let within : length children ≤ c.child_place-at.result = search rules in
    c.new.ensures ∙ ap made (sym (child_missing key children (subst (λ n. length children ≤ n) at within)))
