use Rattle.std.proofs.Common.{◌≡◌, ◌<◌, rules, List, ℕ, [], Ok, Err, length, get_or, refl, ap, subst, inr, ◌∙◌}
use Rattle.served_log.specs.Batches.AreAdded.{none}
use Rattle.served_log.specs.Batches.AreAddedUpTo.{none_yet}
use Rattle.served_log.proofs.Adding.{adds_next, any_added, none_added}
use Rattle.served_log.proofs.Knowing.{no_fault, same_fault, stays_known, stays_named, stays_until, then_until}
use Rattle.served_log.proofs.batch.copy_each.Goals as goal

pub loop-doc_index-init : goal.loop-doc_index-init
loop-doc_index-init g c = record { added = none_yet; any = none; none = λ _. refl; known = λ differ known. known; kept = λ kept. kept; epoch = refl; works = λ h. h; alone = refl }

pub loop-doc_index-preserved : goal.loop-doc_index-preserved
loop-doc_index-preserved g c =
    let before = c.loop-doc_index.invariant in
    let document = c.at-document.result in
    let names : document.shared.now.names.items ≡ c.args.shared.now.names.items = ap (λ s. s.names.items) c.at-document.ensures.shared in
    let within = subst (λ (ns : List (List ℕ)). document.doc_index < length ns) names document.within in
    let named = subst (λ (ns : List (List ℕ)). document.name.now ≡ get_or ns document.doc_index []) names document.named in
    let copied = c.in_ok-count.ensures in
    let now = adds_next c.max-most.ensures before.added within named copied.some (λ is_0. ap (λ k. (g.L.StoredLog.log k).docs) (copied.none (ap Ok is_0))) in
    record {
      added = now;
      any = any_added now;
      none = none_added now;
      known = stays_known _ _ _ _ _ _ _ before.known (no_fault c.in_ok-count.count (stays_named _ _ _ _ _ _ names copied.known));
      kept = λ kept. no_fault c.in_ok-count.count copied.kept (before.kept kept);
      epoch = copied.works.0 ∙ before.epoch;
      works = λ h. copied.works.1 (before.works h);
      alone = copied.alone ∙ before.alone;
    }

pub returns-clause-known : goal.returns-clause-known
returns-clause-known g c = inr c.loop-doc_index.invariant.known

pub returns-in_err-count-clause-known : goal.returns-in_err-count-clause-known
returns-in_err-count-clause-known g c =
    let fault = c.in_err-count.field-0.0 in
    let is : c.from_residual.result ≡ Err fault = search rules in
    let names = ap (λ s. s.names.items) c.at-document.ensures.shared in
    stays_until _ _ _ _ _ _ _ c.loop-doc_index.invariant.known (same_fault c.from_residual.result fault is (stays_named _ _ _ _ _ _ names c.in_err-count.ensures.known))

pub returns-clause-kept : goal.returns-clause-kept
returns-clause-kept g c = inr c.loop-doc_index.invariant.kept

pub returns-in_err-count-clause-kept : goal.returns-in_err-count-clause-kept
returns-in_err-count-clause-kept g c =
    let fault = c.in_err-count.field-0.0 in
    let is : c.from_residual.result ≡ Err fault = search rules in
    then_until c.loop-doc_index.invariant.kept (same_fault c.from_residual.result fault is c.in_err-count.ensures.kept)
