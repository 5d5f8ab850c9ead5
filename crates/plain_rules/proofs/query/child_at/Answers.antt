use Rattle.std.proofs.Common.{rules, ◌<◌, ◌≤◌, length, ◌∙◌, ap, subst, slice_index_or}
use Rattle.plain_rules.specs.Plain.{context_of}
use Rattle.plain_rules.proofs.Descending.{child_at, child_missing}
use Rattle.plain_rules.proofs.query.child_at.Goals as goal

pub returns-then-at-children : goal.returns-then-at-children
returns-then-at-children c =
    let children = c.args.children.now in
    let at = c.child_place-at.ensures.value in
    let within : c.child_place-at.result < length children = search rules in
    ap (λ n. context_of (slice_index_or children n c.index-children-at.result).1) at
    ∙ child_at c.args.key.now children c.index-children-at.result (subst (λ n. n < length children) at within)

pub returns-else-at-children : goal.returns-else-at-children
returns-else-at-children c =
    let children = c.args.children.now in
    let within : length children ≤ c.child_place-at.result = search rules in
    child_missing c.args.key.now children (subst (λ n. length children ≤ n) c.child_place-at.ensures.value within)
