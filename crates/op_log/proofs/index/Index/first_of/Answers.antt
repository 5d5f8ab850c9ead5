use Rattle.std.proofs.Common.{ℕ, ◌<◌, length, sym, subst}
use Rattle.op_log.specs.Index.{HasOpAt}
use Rattle.op_log.proofs.Indexes.{stands-within}
use Rattle.op_log.proofs.Lacks.{chain_to_first, first_uncovered, none_at_end}
use Rattle.op_log.proofs.Uncovered.{chain_ended}
use Rattle.op_log.proofs.index.Index.first_of.Goals as goal

pub first_from-requires-clause-within : goal.first_from-requires-clause-within
first_from-requires-clause-within c =
    let is = c.requires.lack.2 in
    subst (λ (n : ℕ). n < length c.args.entries.now) (sym c.number-last.ensures) (stands-within is.last.here)

pub first_from-requires-clause-reaches : goal.first_from-requires-clause-reaches
first_from-requires-clause-reaches c op there = (c.requires.lack.2).reaches op (rw c.number-last.ensures at there)

pub returns-then-last-from-clause-covered : goal.returns-then-last-from-clause-covered
returns-then-last-from-clause-covered c front name is =
    chain_ended front c.args.entries.now name c.args.lack.now.last c.args.from _ is.last (rw c.number-last.ensures at c.if-last-from.true)

pub returns-then-last-from-clause-uncovered : goal.returns-then-last-from-clause-uncovered
returns-then-last-from-clause-uncovered c front name is = none_at_end front c.args.entries.now

pub returns-clause-covered : goal.returns-clause-covered
returns-clause-covered c front name is =
    chain_to_first front c.args.entries.now name c.args.lack.now c.args.from c.first_from.result is
    (c.first_from.ensures.first name (subst (HasOpAt c.args.entries.now name) (sym c.number-last.ensures) is.last.here))

pub returns-clause-uncovered : goal.returns-clause-uncovered
returns-clause-uncovered c front name is =
    first_uncovered front c.args.entries.now name c.args.lack.now c.args.from c.first_from.result is
    (c.first_from.ensures.first name (subst (HasOpAt c.args.entries.now name) (sym c.number-last.ensures) is.last.here))
