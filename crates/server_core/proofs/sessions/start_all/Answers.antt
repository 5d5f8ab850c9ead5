use Rattle.std.proofs.Common.{◌≡◌, [], rules, sym, ◌∙◌}
use Rattle.std.specs.Vec.Iter.{into_iter_items}
use Rattle.std.proofs.lemmas.List.{nil_from_length}
use Rattle.server_core.proofs.Attending.{all_begun, more_begun, none_begun}
use Rattle.server_core.proofs.sessions.start_all.Goals as goal

pub loop-connection-init : goal.loop-connection-init
loop-connection-init g c =
    record { begun = none_begun _ _ _ (search rules); left = search rules; each = search rules; room = search rules }

pub loop-connection-preserved : goal.loop-connection-preserved
loop-connection-preserved g c =
    let at = c.loop-connection in
    record {
      begun = more_begun _ _ _ _ _ _ _ _ at.invariant.begun c.in-Some.ensures.steps.0 (search rules) c.start.ensures;
      left = search rules;
      each = search rules;
      room = search rules;
    }

pub returns-clause-promised : goal.returns-clause-promised
returns-clause-promised g c =
    let at = c.loop-connection in
    let none : into_iter_items at.connection-iterator ≡ [] = nil_from_length _ (sym at.invariant.left ∙ c.in-None.ensures.steps.0) in
    all_begun _ _ _ _ _ at.invariant.begun none c.into_iter-connection-iterator.ensures.into_iter_gives.0
