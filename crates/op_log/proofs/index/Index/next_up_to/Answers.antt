use Rattle.std.proofs.Common.{ℕ, ◌≤◌, subst, arith}
use Rattle.op_log.proofs.Indexes.{stands-within}
use Rattle.op_log.proofs.Chained.{none_above, none_up_to, next_above}
use Rattle.op_log.proofs.index.Index.next_up_to.Goals as goal

pub counter_at-requires : goal.counter_at-requires
counter_at-requires c = stands-within (c.requires.end.1).here

pub returns-then-counter_at-above : goal.returns-then-counter_at-above
returns-then-counter_at-above c name is =
    none_above name c.args.above c.args.last c.args.entries.now c.requires.index.good c.args.end is
    (λ op there. subst (λ (n : ℕ). n ≤ c.args.above) (c.counter_at.ensures op there) c.if-counter_at-above.true)

pub first_from-at-requires-clause-within : goal.first_from-at-requires-clause-within
first_from-at-requires-clause-within c = stands-within (c.requires.end.1).here

pub first_from-at-requires-clause-reaches : goal.first_from-at-requires-clause-reaches
first_from-at-requires-clause-reaches c op there = omega (arith, c.counter_at.ensures op there, c.if-counter_at-above.false)

pub counter_at-requires-2 : goal.counter_at-requires-2
counter_at-requires-2 c = stands-within (c.first_from-at.ensures.first c.requires.end.0 (c.requires.end.1).here).here

pub returns-then-counter_at-last : goal.returns-then-counter_at-last
returns-then-counter_at-last c name is =
    next_above name c.args.above c.args.last c.args.entries.now c.requires.index.good c.first_from-at.result (c.first_from-at.ensures.first name is.here)
    (λ op there. subst (λ (n : ℕ). n ≤ c.args.last) (c.counter_at-2.ensures op there) c.if-counter_at-last.true)

pub returns-else-counter_at-last : goal.returns-else-counter_at-last
returns-else-counter_at-last c name is =
    none_up_to name c.args.above c.args.last c.args.entries.now c.requires.index.good c.first_from-at.result (c.first_from-at.ensures.first name is.here)
    (λ op there. omega (arith, c.counter_at-2.ensures op there, c.if-counter_at-last.false))
