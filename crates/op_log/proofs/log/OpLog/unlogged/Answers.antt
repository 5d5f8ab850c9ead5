use Rattle.std.proofs.Common.{◌≡◌, ◌<◌, ◌≤◌, ℕ, List, ◌∷◌, [], ◌++◌, Bool, true, not, length, map, filter, sym, ap, subst, ◌∙◌}
use Rattle.std.proofs.lemmas.List.{take_all}
use Rattle.doc_api.specs.Words.{Id}
use Rattle.version_vector.specs.Front.{id_of}
use Rattle.crdt_rules.specs.Dependencies.{is_logged}
use Rattle.op_log.proofs.Pairs.{one_passes, one_falls}
use Rattle.op_log.proofs.log.OpLog.unlogged.Goals as goal
use Rattle.op_log.proofs.log.OpLog.unlogged.Goals.{then-not-contains+in_ok-push, else-not-contains}

pub loop-at-preserved : goal.loop-at-preserved
loop-at-preserved c =
    let front = c.args.front.now in
    let at = c.loop-at.at in
    let test : Id → Bool = λ i. not (is_logged c.args.self.now.operations i) in
    let within : at < length front = subst (λ (n : ℕ). at < n) c.len-at-end.ensures c.loop-at-test.true in
    elim c.if-not-contains.branch [
      | then-not-contains+in_ok-push w ↦
          let id = w.id_at-then-not-contains.result in
          let same : id ≡ c.id_at.result = w.id_at-then-not-contains.ensures ([], 0) ∙ sym (c.id_at.ensures ([], 0)) in
          let passes : test id ≡ true = ap test same ∙ ap not (sym c.contains.ensures ∙ w.if-not-contains.true) in
          rw w.ids-is
          (w.in_ok-push.ensures.items ∙ ap (λ (ids : List Id). ids ++ id ∷ []) c.loop-at.invariant
          ∙ sym (one_passes test front at id within w.id_at-then-not-contains.ensures passes))
      | else-not-contains w ↦
          rw w.ids-is
          (c.loop-at.invariant
          ∙ sym (one_falls test front at c.id_at.result within c.id_at.ensures (ap not (sym c.contains.ensures ∙ w.if-not-contains.false))))
    ]

pub returns-clause-ok : goal.returns-clause-ok
returns-clause-ok c =
    let front = c.args.front.now in
    let past : length front ≤ c.loop-at.at = subst (λ (n : ℕ). n ≤ c.loop-at.at) c.len-at-end.ensures c.loop-at-test.false in
    c.loop-at.invariant ∙ ap (λ (f : List (List ℕ × ℕ)). filter (λ i. not (is_logged c.args.self.now.operations i)) (map id_of f)) (take_all c.loop-at.at front past)
