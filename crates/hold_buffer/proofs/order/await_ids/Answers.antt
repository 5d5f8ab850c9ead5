use Rattle.std.proofs.Common.{◌≡◌, ◌∙◌, ℕ, List, Contains, sym, ap, subst}
use Rattle.slab.specs.Slab.{get}
use Rattle.doc_api.specs.Words.{name_cmp, Id}
use Rattle.doc_rules.specs.Sorted.{IsRising}
use Rattle.crdt_rules.proofs.Tests.{some≢none}
use Rattle.op_log.proofs.Comparing.{shaped_ascending}
use Rattle.hold_buffer.specs.Missing.{left_of}
use Rattle.hold_buffer.specs.Waiters.{waiters_of}
use Rattle.hold_buffer.proofs.Intact.{rising_missing, left_missing}
use Rattle.hold_buffer.proofs.order.await_ids.Goals as goal

pub of-requires-clause-rising : goal.of-requires-clause-rising
of-requires-clause-rising c =
    subst (IsRising name_cmp (λ (i : Id). i.replica)) (sym c.requires.1)
    (rising_missing c.args.op.now c.requires.0 (shaped_ascending c.args.op.now c.keeps_shape.ensures))

pub of-requires-clause-left : goal.of-requires-clause-left
of-requires-clause-left c = subst (λ (l : List Id). left_of l ≡ l) (sym c.requires.1) (left_missing c.args.op.now c.requires.0 c.keeps_shape.ensures)

pub returns-in_err-note_all-clause-kept : goal.returns-in_err-note_all-clause-kept
returns-in_err-note_all-clause-kept c i k o held there =
    c.in_err-note_all.ensures.kept i k (λ same. some≢none (sym held ∙ ap (get c.args.slots.now) same ∙ c.vacant_key.ensures.vacant)) there

pub returns-clause-kept : goal.returns-clause-kept
returns-clause-kept c i k o held there =
    c.in_ok-note_all.ensures.kept i k (λ same. some≢none (sym held ∙ ap (get c.args.slots.now) same ∙ c.vacant_key.ensures.vacant)) there

pub returns-clause-noted : goal.returns-clause-noted
returns-clause-noted c i there =
    subst (λ (k : ℕ). Contains (waiters_of c.note_all.new.self i) k) c.vacant_key.ensures.value
    (c.in_ok-note_all.ensures.noted i (subst (λ (l : List Id). Contains l i) (sym c.as_slice.ensures) there))
