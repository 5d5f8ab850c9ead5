use Rattle.std.proofs.Common.{ℕ, List, Contains, inl, inr, sym, subst, take, arith}
use Rattle.std.proofs.lemmas.List.{take_all}
use Rattle.std.proofs.lemmas.List.Elements.{Contains-push_cases}
use Rattle.list_laws.proofs.Members.{Contains-nil}
use Rattle.list_laws.proofs.Reading.{take_read}
use Rattle.doc_api.specs.Words.{Id}
use Rattle.hold_buffer.specs.Waiters.{row_at, row_of}
use Rattle.hold_buffer.proofs.waiters.note_each.Goals as goal

pub loop-id-init : goal.loop-id-init
loop-id-init c = (c.requires, (λ n k there. there), (λ i there. absurd (Contains-nil there)))

pub returns-in_err-note_in-clause-kept : goal.returns-in_err-note_in-clause-kept
returns-in_err-note_in-clause-kept c n k there = c.in_err-note_in.ensures.kept n k (c.loop-id.invariant.1 n k there)

pub loop-id-preserved : goal.loop-id-preserved
loop-id-preserved c = (
  (omega (arith, c.loop-id.invariant.0, c.in_ok-note_in.ensures.len)),
  (λ n k there. c.in_ok-note_in.ensures.kept n k (c.loop-id.invariant.1 n k there)),
  (λ i there.
      elim (Contains-push_cases (take c.loop-id.id-index c.args.ids.now) c.id-item.result i
      (subst (λ (l : List Id). Contains l i) (take_read c.args.ids.now c.loop-id.id-index c.id-item.result c.loop-id-test.true c.id-item.is) there)) [
        | inl old ↦ c.in_ok-note_in.ensures.kept (row_of i) c.args.key (c.loop-id.invariant.2 i old)
        | inr same ↦ subst (λ (j : Id). Contains (row_at c.note_in.new.rows.items (row_of j)) c.args.key) same
            (subst (λ (n : ℕ). Contains (row_at c.note_in.new.rows.items n) c.args.key) c.row_of.ensures.value c.in_ok-note_in.ensures.noted)
      ]),
)

pub returns-clause-kept : goal.returns-clause-kept
returns-clause-kept c = c.loop-id.invariant.1

pub returns-clause-noted : goal.returns-clause-noted
returns-clause-noted c i there =
    c.loop-id.invariant.2 i (subst (λ (l : List Id). Contains l i) (sym (take_all c.loop-id.id-index c.args.ids.now c.loop-id-test.false)) there)
