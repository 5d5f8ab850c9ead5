use Rattle.std.proofs.Common.{◌≡◌, ◌+◌, suc, true, false, nat_le, get_or, drop, ◌&&◌, sym, ap, ◌∙◌, arith}
use Rattle.std.specs.List.{zip}
use Rattle.std.proofs.lemmas.List.{drop_all}
use Rattle.version_vector.specs.Front.{is_le}
use Rattle.version_vector.proofs.FrontPairs.{length-pairs}
use Rattle.op_log.proofs.Comparing.{turn_less, turn_equal, turn_greater, at_end, ends_there, reaches_less, reaches_it}
use Rattle.op_log.proofs.front.are_at_most.Goals as goal
use Rattle.op_log.proofs.front.are_at_most.Goals.{in-Equal-2, in-Greater}

pub returns-then-first-names : goal.returns-then-first-names
returns-then-first-names c =
    sym (at_end c.args.names.now c.args.counters.now c.requires.len c.loop-at.first (drop c.loop-at.at (zip c.args.others.now c.args.reached.now)) c.if-first-names.true)
    ∙ c.loop-at.invariant

pub returns-in-Less : goal.returns-in-Less
returns-in-Less c =
    sym
    (turn_less c.args.names.now c.args.others.now c.args.counters.now c.args.reached.now c.requires.len c.requires.other_len c.requires.ascending c.requires.other_ascending
    c.loop-at.first c.loop-at.at c.if-first-names.false c.loop-at-test.true c.index-names-first.result c.index-others-at.result c.index-names-first.is c.index-others-at.is
    (sym c.cmp.ensures ∙ c.in-Less.is))
    ∙ c.loop-at.invariant

pub returns-in-Equal : goal.returns-in-Equal
returns-in-Equal c =
    let first = c.loop-at.first in
    let at = c.loop-at.at in
    let greater : nat_le (get_or c.args.counters.now first 0) (get_or c.args.reached.now at 0) ≡ false =
    reaches_less (get_or c.args.counters.now first 0) (get_or c.args.reached.now at 0) c.at.result c.at-in-Equal-1.result c.at.ensures c.at-in-Equal-1.ensures c.if-at.true in
    ap (λ b. b && is_le (drop (suc first) (zip c.args.names.now c.args.counters.now)) (drop (suc at) (zip c.args.others.now c.args.reached.now))) (sym greater)
    ∙ sym
    (turn_equal c.args.names.now c.args.others.now c.args.counters.now c.args.reached.now c.requires.len c.requires.other_len c.requires.ascending c.requires.other_ascending
    first at c.if-first-names.false c.loop-at-test.true c.index-names-first.result c.index-others-at.result c.index-names-first.is c.index-others-at.is
    (sym c.cmp.ensures ∙ c.in-Equal.is))
    ∙ c.loop-at.invariant

pub loop-at-preserved : goal.loop-at-preserved
loop-at-preserved c =
    let first = c.loop-at.first in
    let at = c.loop-at.at in
    let one : at + 1 ≡ suc at = omega arith in
    elim c.match-cmp.branch [
      | in-Equal-2 w ↦
          let next : c.match-cmp.first ≡ suc first = omega (arith, w.first-is) in
          let le : nat_le (get_or c.args.counters.now first 0) (get_or c.args.reached.now at 0) ≡ true =
          reaches_it (get_or c.args.counters.now first 0) (get_or c.args.reached.now at 0) w.at.result w.at-in-Equal-1.result w.at.ensures w.at-in-Equal-1.ensures w.if-at.false in
          rw (next, one)
          (ap (λ b. b && is_le (drop (suc first) (zip c.args.names.now c.args.counters.now)) (drop (suc at) (zip c.args.others.now c.args.reached.now))) (sym le)
          ∙ sym
          (turn_equal c.args.names.now c.args.others.now c.args.counters.now c.args.reached.now c.requires.len c.requires.other_len c.requires.ascending c.requires.other_ascending
          first at c.if-first-names.false c.loop-at-test.true c.index-names-first.result c.index-others-at.result c.index-names-first.is c.index-others-at.is
          (sym c.cmp.ensures ∙ w.in-Equal.is))
          ∙ c.loop-at.invariant)
      | in-Greater w ↦
          rw (w.first-is, one)
          (sym
          (turn_greater c.args.names.now c.args.others.now c.args.counters.now c.args.reached.now c.requires.len c.requires.other_len c.requires.ascending c.requires.other_ascending
          first at c.if-first-names.false c.loop-at-test.true c.index-names-first.result c.index-others-at.result c.index-names-first.is c.index-others-at.is
          (sym c.cmp.ensures ∙ w.in-Greater.is))
          ∙ c.loop-at.invariant)
    ]

pub returns : goal.returns
returns c =
    ends_there c.args.names.now c.args.counters.now c.requires.len c.loop-at.first
    ∙ ap (is_le (drop c.loop-at.first (zip c.args.names.now c.args.counters.now)))
    (sym (drop_all c.loop-at.at (zip c.args.others.now c.args.reached.now) (omega (arith, length-pairs c.args.others.now c.args.reached.now c.requires.other_len, c.requires.other_len, c.loop-at-test.false))))
    ∙ c.loop-at.invariant
