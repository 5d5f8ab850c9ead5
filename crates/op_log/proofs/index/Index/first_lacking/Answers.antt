use Rattle.std.proofs.Common.{◌≡◌, ◌+◌, ◌≤◌, List, suc, take_all, Contains, arith, subst, sym}
use Rattle.std.proofs.Math.Nat.{min-le_left, min-le_right}
use Rattle.std.proofs.lemmas.List.Elements.{Contains-get_or}
use Rattle.op_log.specs.declared.index.Lack.{Lack}
use Rattle.op_log.proofs.Lacks.{firsts_next, firsts_all, uncovered_least}
use Rattle.op_log.proofs.index.Index.first_lacking.Goals as goal

pub first_of-requires-clause-lack : goal.first_of-requires-clause-lack
first_of-requires-clause-lack c =
    let lacks = c.args.lacks.now in
    let lack = c.lack-item.result in
    let inside = subst (λ (l : Lack). Contains lacks l) (sym c.lack-item.is) (Contains-get_or lacks c.loop-lack.lack-index lack c.loop-lack-test.true) in
    let e = (c.requires.lacks.1).each lack inside in
    (c.requires.lacks.0, e.0, e.1)

pub loop-lack-preserved : goal.loop-lack-preserved
loop-lack-preserved c =
    let one : c.loop-lack.lack-index + 1 ≡ suc c.loop-lack.lack-index = omega arith in
    let log = c.args.entries.now in
    let lacks = c.args.lacks.now in
    let lack = c.lack-item.result in
    let inside = subst (λ (l : Lack). Contains lacks l) (sym c.lack-item.is) (Contains-get_or lacks c.loop-lack.lack-index lack c.loop-lack-test.true) in
    let least = c.loop-lack.least in
    let n = c.first_of.result in
    let m = c.min-least.result in
    let low : m ≤ least = omega (arith, c.min-least.ensures, min-le_left least n) in
    let high : m ≤ n = omega (arith, c.min-least.ensures, min-le_right least n) in
    let later : c.args.from ≤ m = omega (arith, c.min-least.ensures, c.loop-lack.invariant.0, c.first_of.ensures.later) in
    rw one (
      later,
      omega (arith, low, c.loop-lack.invariant.1),
      λ front.
          firsts_next front log lacks c.loop-lack.lack-index lack c.args.from least n m low high c.loop-lack-test.true c.lack-item.is (c.loop-lack.invariant.2 front) (c.first_of.ensures.covered front),
      λ front are.
          let e = are.each lack inside in
          uncovered_least front log least n m c.min-least.ensures (c.loop-lack.invariant.3 front are) (c.first_of.ensures.uncovered front e.0 e.1),
    )

pub returns : goal.returns
returns c = record {
  next = λ front are. record {
    within = c.loop-lack.invariant.1;
    later = c.loop-lack.invariant.0;
    covered = firsts_all front c.args.entries.now c.args.lacks.now c.args.from c.loop-lack.least are
        (λ l h. c.loop-lack.invariant.2 front l
        (subst (λ (ls : List Lack). Contains ls l) (sym (take_all c.loop-lack.lack-index c.args.lacks.now c.loop-lack-test.false)) h));
    uncovered = c.loop-lack.invariant.3 front are;
  };
}
