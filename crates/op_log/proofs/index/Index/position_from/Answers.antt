use Rattle.std.proofs.Common.{ℕ, ◌<◌, sym, subst, ◌∙◌}
use Rattle.op_log.proofs.Indexes.{stands-within, none_behind, first_found, first_other}
use Rattle.op_log.proofs.index.Index.position_from.Goals as goal

pub counter_at-requires : goal.counter_at-requires
counter_at-requires c = stands-within c.requires.last.here

pub returns-then-counter_at-id-clause-found : goal.returns-then-counter_at-id-clause-found
returns-then-counter_at-id-clause-found c =
    none_behind c.args.entries.now c.requires.index.good c.args.id.now c.args.last c.requires.last
    (λ op there. subst (λ (n : ℕ). n < c.args.id.now.counter) (c.counter_at.ensures op there) c.if-counter_at-id.true)

pub first_from-at-requires-clause-within : goal.first_from-at-requires-clause-within
first_from-at-requires-clause-within c = stands-within c.requires.last.here

pub counter_at-requires-2 : goal.counter_at-requires-2
counter_at-requires-2 c = stands-within (c.first_from-at.ensures.first c.args.id.now.replica c.requires.last.here).here

pub returns-then-counter_at-id-2-clause-within : goal.returns-then-counter_at-id-2-clause-within
returns-then-counter_at-id-2-clause-within c = stands-within (c.first_from-at.ensures.first c.args.id.now.replica c.requires.last.here).here

pub returns-then-counter_at-id-2-clause-found : goal.returns-then-counter_at-id-2-clause-found
returns-then-counter_at-id-2-clause-found c =
    let log = c.args.entries.now in
    let first = c.first_from-at.ensures.first c.args.id.now.replica c.requires.last.here in
    let at = first.here in (
      at.op,
      at.there,
      first_found log c.requires.index.good c.args.id.now c.first_from-at.result first at.op at.there (sym (c.counter_at-2.ensures at.op at.there) ∙ c.if-counter_at-id-2.true),
    )

pub returns-else-counter_at-id-2-clause-found : goal.returns-else-counter_at-id-2-clause-found
returns-else-counter_at-id-2-clause-found c =
    let log = c.args.entries.now in
    let first = c.first_from-at.ensures.first c.args.id.now.replica c.requires.last.here in
    first_other log c.requires.index.good c.args.id.now c.first_from-at.result first
    (λ op is same. c.if-counter_at-id-2.false (c.counter_at-2.ensures op is ∙ same))
