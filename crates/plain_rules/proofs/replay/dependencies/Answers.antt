use Rattle.std.proofs.Common.{◌++◌, ◌∷◌, [], List, Bool, map, filter, sym, ap, ◌∙◌, rules}
use Rattle.std.proofs.lemmas.List.{take_all}
use Rattle.lamport_id.specs.declared.id.Id.{Id}
use Rattle.op_core.specs.Op.{Op}
use Rattle.version_vector.specs.Front.{covers}
use Rattle.plain_rules.proofs.Replaying.{ids-more, ids-passed}
use Rattle.plain_rules.proofs.replay.dependencies.Goals as goal
use Rattle.plain_rules.proofs.replay.dependencies.Goals.{then-covers+in_ok-push, else-covers}

pub loop-earlier-preserved : goal.loop-earlier-preserved
loop-earlier-preserved c =
    let test : Id → Bool = covers c.args.op.now.front in
    let before = c.args.before.now in
    let i = c.loop-earlier.earlier-index in
    let x = c.earlier-item.result in
    elim c.if-covers.branch [
      | then-covers+in_ok-push w ↦
          let id = w.id-then-covers.result in
          rw w.ids-is
          (w.in_ok-push.ensures.items
          ∙ (λ k. c.loop-earlier.invariant k ++ w.id-then-covers.ensures.value k ∷ [])
          ∙ sym (ids-more test before i x c.loop-earlier-test.true c.earlier-item.is (search rules)))
      | else-covers w ↦
          rw w.ids-is (c.loop-earlier.invariant ∙ sym (ids-passed test before i x c.loop-earlier-test.true c.earlier-item.is (search rules)))
    ]

pub returns-clause-done : goal.returns-clause-done
returns-clause-done c =
    c.loop-earlier.invariant
    ∙ ap (λ (l : List Op). filter (covers c.args.op.now.front) (map (λ (o : Op). o.id) l)) (take_all c.loop-earlier.earlier-index c.args.before.now c.loop-earlier-test.false)
