use Rattle.std.proofs.Common.{◌≡◌, ℕ, ◌+◌, ◌<◌, ◌≤◌, List, suc, length, take_all, Contains, arith, subst, sym}
use Rattle.std.proofs.Math.Nat.{min-le_left, min-le_right}
use Rattle.std.proofs.lemmas.List.Elements.{Contains-get_or}
use Rattle.op_log.proofs.Lacks.{lack_none}
use Rattle.op_log.proofs.Uncovered.{last_of_entry, chains_next, chains_all}
use Rattle.op_log.proofs.index.Index.covered_before.Goals.{in-Some, in_default}
use Rattle.op_log.proofs.index.Index.covered_before.Goals as goal

pub lack_of-requires-clause-last : goal.lack_of-requires-clause-last
lack_of-requires-clause-last c =
    let lasts = c.args.self.now.lasts.items in
    let within : c.loop-at.at < length lasts = omega (arith, c.loop-at-test.true, c.len-at-end.ensures, c.args.self.now.lasts.ok.0) in
    last_of_entry c.requires.index.lasts c.index.result.now
    (subst (λ (e : List ℕ × ℕ). Contains lasts e) (sym c.index.ensures) (Contains-get_or lasts c.loop-at.at c.index.result.now within))

pub loop-at-preserved : goal.loop-at-preserved
loop-at-preserved c =
    let one : c.loop-at.at + 1 ≡ suc c.loop-at.at = omega arith in
    let front = c.args.front.now in
    let log = c.args.entries.now in
    let least = c.loop-at.least in
    let e = c.index.result.now in
    let lasts = c.args.self.now.lasts.items in
    let within : c.loop-at.at < length lasts = omega (arith, c.loop-at-test.true, c.len-at-end.ensures, c.args.self.now.lasts.ok.0) in
    elim c.match-lack_of.branch [
      | in-Some w ↦
          let n = w.first_of.result in
          let m = w.min-least.result in
          let low : m ≤ least = omega (arith, w.min-least.ensures, min-le_left least n) in
          let high : m ≤ n = omega (arith, w.min-least.ensures, min-le_right least n) in
          rw (w.least-is, one) (
            omega (arith, low, c.loop-at.invariant.0),
            chains_next front log lasts c.loop-at.at e 0 least n m low high within c.index.ensures c.loop-at.invariant.1 (w.first_of.ensures.covered front e.0 w.in-Some.ensures),
          )
      | in_default w ↦
          let all = lack_none front log c.index.result.now.0 c.lack_of.result w.in_default.not-Some c.lack_of.ensures in
          rw (w.least-is, one) (
            c.loop-at.invariant.0,
            chains_next front log lasts c.loop-at.at e 0 least least least (omega arith) (omega arith) within c.index.ensures c.loop-at.invariant.1 (λ k at behind below. all k at),
          )
    ]

pub returns : goal.returns
returns c =
    let lasts = c.args.self.now.lasts.items in
    let past : length lasts ≤ c.loop-at.at = omega (arith, c.loop-at-test.false, c.len-at-end.ensures, c.args.self.now.lasts.ok.0) in
    chains_all c.args.front.now c.args.entries.now lasts 0 c.loop-at.least c.requires.index.lasts
    (λ f h. c.loop-at.invariant.1 f (subst (λ (l : List (List ℕ × ℕ)). Contains l f) (sym (take_all c.loop-at.at lasts past)) h))
