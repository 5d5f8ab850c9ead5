use Rattle.std.proofs.Common.{◌≡◌, suc, ◌+ℤ◌, length, ap, arith}
use Rattle.std.proofs.lemmas.Int.{ints}
use Rattle.doc_rules.specs.Views.{total}
use Rattle.doc_view.proofs.registers.total_of.Goals as goal

pub loop-entry-init : goal.loop-entry-init
loop-entry-init c =
    let same = c.into_iter-entry-iterator.ensures.into_iter_gives in
    let sums = ap total same in
    let lengths = ap length same in
    (omega (arith, ints, sums), omega (arith, ints, lengths), omega (arith, ints, lengths))

pub loop-entry-preserved : goal.loop-entry-preserved
loop-entry-preserved c =
    let steps = c.in-Some.ensures.steps in
    let sums : total c.loop-entry.entry-iterator ≡ c.in-Some.entry.now.1 +ℤ total c.next.new.self = ap total steps in
    let lengths : length c.loop-entry.entry-iterator ≡ suc (length c.next.new.self) = ap length steps in
    (omega (arith, ints, sums, c.loop-entry.invariant.0), omega (arith, ints, lengths, c.loop-entry.invariant.1), omega (arith, ints, lengths, c.loop-entry.invariant.2))

pub returns : goal.returns
returns c =
    let none = ap total c.in-None.ensures.steps.0 in
    omega (arith, ints, none, c.loop-entry.invariant.0)
