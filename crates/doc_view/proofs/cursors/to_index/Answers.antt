use Rattle.std.proofs.Common.{◌≡◌, Ok, ok_or, sym, ◌∙◌}
use Rattle.json_scalar.specs.Refusal.{and_then}
use Rattle.json_scalar.specs.declared.refusal.Refusal.TheVariants.{IndexPastEnd}
use Rattle.doc_rules.specs.Views.{into_list}
use Rattle.doc_view.proofs.cursors.to_index.Goals as goal

pub returns-in_default-clause-value : goal.returns-in_default-clause-value
returns-in_default-clause-value c = λ other.
    let from = c.args.from in
    let read = c.in_ok-path.ensures (λ e. absurd (cc)) in
    let path : c.in_ok-path.path ≡ into_list from.path from.key = cc in
    let there = rw path at c.key_at.ensures.value in
    (there.0, there.1, (λ i. and_then (ok_or ((sym c.in_default.is ∙ there.2) i) IndexPastEnd) (λ k. Ok (record { path = path i; key = k }))))

pub returns-clause-value : goal.returns-clause-value
returns-clause-value c = λ other.
    let from = c.args.from in
    let read = c.in_ok-path.ensures (λ e. absurd (cc)) in
    let path : c.in_ok-path.path ≡ into_list from.path from.key = cc in
    let there = rw path at c.key_at.ensures.value in
    (there.0, there.1, (λ i. and_then (ok_or ((sym c.in-Some.is ∙ there.2) i) IndexPastEnd) (λ k. Ok (record { path = path i; key = k }))))
