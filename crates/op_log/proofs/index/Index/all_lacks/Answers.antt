use Rattle.std.proofs.Common.{◌≡◌, ℕ, ◌+◌, ◌<◌, ◌≤◌, List, suc, length, take, take_all, Contains, arith, subst, sym}
use Rattle.std.proofs.lemmas.List.Elements.{Contains-get_or}
use Rattle.op_log.proofs.Lacks.{AreLacksOf, lacks_none, lacks_one, lacks_all, lack_none}
use Rattle.op_log.proofs.Uncovered.{last_of_entry}
use Rattle.op_log.proofs.index.Index.all_lacks.Goals.{in-Some+in_ok-push, in_default}
use Rattle.op_log.proofs.index.Index.all_lacks.Goals as goal

pub lack_of-requires-clause-last : goal.lack_of-requires-clause-last
lack_of-requires-clause-last c =
    let lasts = c.args.self.now.lasts.items in
    let within : c.loop-at.at < length lasts = omega (arith, c.loop-at-test.true, c.len-at-end.ensures, c.args.self.now.lasts.ok.0) in
    last_of_entry c.requires.index.lasts c.index.result.now
    (subst (λ (e : List ℕ × ℕ). Contains lasts e) (sym c.index.ensures) (Contains-get_or lasts c.loop-at.at c.index.result.now within))

pub loop-at-preserved : goal.loop-at-preserved
loop-at-preserved c =
    let one : c.loop-at.at + 1 ≡ suc c.loop-at.at = omega arith in
    let front = c.args.front.now in
    let log = c.args.entries.now in
    let lasts = c.args.self.now.lasts.items in
    let within : c.loop-at.at < length lasts = omega (arith, c.loop-at-test.true, c.len-at-end.ensures, c.args.self.now.lasts.ok.0) in
    elim c.match-lack_of.branch [
      | in-Some+in_ok-push w ↦
          rw (w.found-is, one)
          (subst (AreLacksOf front log (take (suc c.loop-at.at) lasts)) (sym w.in_ok-push.ensures.items)
          (lacks_one front log lasts c.loop-at.at c.index.result.now within c.index.ensures c.loop-at.found.items c.loop-at.invariant w.in-Some.lack w.in-Some.ensures))
      | in_default w ↦
          rw (w.found-is, one)
          (lacks_none front log lasts c.loop-at.at c.index.result.now within c.index.ensures c.loop-at.found.items c.loop-at.invariant
          (lack_none front log c.index.result.now.0 c.lack_of.result w.in_default.not-Some c.lack_of.ensures))
    ]

pub returns-clause-ok : goal.returns-clause-ok
returns-clause-ok c =
    let front = c.args.front.now in
    let log = c.args.entries.now in
    let lasts = c.args.self.now.lasts.items in
    let past : length lasts ≤ c.loop-at.at = omega (arith, c.loop-at-test.false, c.len-at-end.ensures, c.args.self.now.lasts.ok.0) in
    lacks_all front log lasts c.loop-at.found.items c.requires.index.lasts
    (subst (λ (l : List (List ℕ × ℕ)). AreLacksOf front log l c.loop-at.found.items) (take_all c.loop-at.at lasts past) c.loop-at.invariant)
