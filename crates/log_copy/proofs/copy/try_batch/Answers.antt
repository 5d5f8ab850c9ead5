use Rattle.std.proofs.Common.{◌+◌, List, ℕ, length, map, string_bytes, inl, inr, refl, Err, sym, ap, subst, ◌∙◌, arith, eqb-true}
use Rattle.std.proofs.lemmas.List.{nil_from_length}
use Rattle.sqlite.specs.Held.{state}
use Rattle.sqlite.specs.State.{HasCleanDisk}
use Rattle.stored_rows.specs.Content.{Content, with_rows, rows_from}
use Rattle.stored_rows.specs.Statements.{RanAll, batch_of}
use Rattle.stored_rows.specs.Steps.{IsOpenWith}
use Rattle.stored_log.specs.Docs.{op_text}
use Rattle.log_copy.specs.Batch.{IsLeft}
use Rattle.log_copy.specs.Failing.{FailsAmong}
use Rattle.stored_log.proofs.Batches.{some_from}
use Rattle.log_copy.proofs.SoundLemmas.{batch_rows, same_lengths, texts_writable}
use Rattle.log_copy.proofs.BatchLemmas.{left_by, sends}
use Rattle.log_copy.proofs.copy.try_batch.Goals as goal

pub returns-then-not-may_add : goal.returns-then-not-may_add
returns-then-not-may_add g c = (
  record { same_conn = refl; same_docs = refl },
  λ batch. absurd (let may = (rw c.as_slice.ensures.value at c.may_add.ensures).1 (batch.named, batch.next, batch.few) in let no = c.if-not-may_add.true in cc),
)

pub returns-then-is_empty : goal.returns-then-is_empty
returns-then-is_empty g c =
    let may = rw c.as_slice.ensures.value at (c.may_add.ensures.0 c.if-not-may_add.false) in
    inl (record { same_conn = refl; same_docs = refl }, may, nil_from_length c.args.batch.entries.now (eqb-true (length c.args.batch.entries.now) 0 (sym c.is_empty.ensures ∙ c.if-is_empty.true)))

pub overflow_cast-from : goal.overflow_cast-from
overflow_cast-from g c =
    let may = rw c.as_slice.ensures.value at (c.may_add.ensures.0 c.if-not-may_add.false) in
    omega (arith, batch_rows c.args.batch.doc.now c.args.batch.from c.args.batch.entries.now c.args.docs.now.items may c.in_ok-texts.ensures.ok.1)

pub put_entries-requires : goal.put_entries-requires
put_entries-requires g c =
    let may = rw c.as_slice.ensures.value at (c.may_add.ensures.0 c.if-not-may_add.false) in
    let told = ap (map string_bytes) c.as_slice-2.ensures.value ∙ c.in_ok-texts.ensures.texts in
    omega (arith, batch_rows c.args.batch.doc.now c.args.batch.from c.args.batch.entries.now c.args.docs.now.items may c.in_ok-texts.ensures.ok.1, same_lengths string_bytes op_text c.as_slice-2.result.now c.args.batch.entries.now told)

pub returns-in_err-texts : goal.returns-in_err-texts
returns-in_err-texts g c =
    let left : IsLeft g.S.Store c.args.batch.doc.now c.args.batch.from c.args.batch.entries.now c.args.conn.now c.args.conn.now c.args.docs.now.items c.add_kept.new.docs.items = record { same_conn = refl; same_docs = c.in_err-texts.ensures.err.0 } in
    left_by g.S.Store c.args.batch.doc.now c.args.batch.from c.args.batch.entries.now c.args.conn.now c.args.conn.now c.args.docs.now.items c.add_kept.new.docs.items c.from_residual.result c.in_err-texts.field-0.0 c.from_residual.ensures.1 left
    c.in_err-texts.ensures.err.1 (λ is. c.in_err-texts.ensures.refused (ap Err is))

pub returns-in-Ok : goal.returns-in-Ok
returns-in-Ok g c =
    let may = rw c.as_slice.ensures.value at (c.may_add.ensures.0 c.if-not-may_add.false) in
    let told = ap (map string_bytes) c.as_slice-2.ensures.value ∙ c.in_ok-texts.ensures.texts in
    let old = c.args.conn.now in
    let new = c.put_entries.new.conn in
    inr (record {
      sent = sends g.S.Store c.args.batch.doc.now c.args.batch.from c.args.batch.entries.now old new c.args.docs.now.items c.add_kept.new.docs.items (map string_bytes c.as_slice-2.result.now) told may
          (some_from c.args.batch.entries.now (sym c.is_empty.ensures ∙ c.if-is_empty.false)) c.in_ok-texts.ensures.ok.1 (texts_writable c.as_slice-2.result.now c.args.batch.entries.now told) c.in_ok-texts.ensures.ok.0 c.put_entries.ensures.crash c.put_entries.ensures.commits;
      shows = subst (λ (t : List (List ℕ)). HasCleanDisk (state g.S.Store new) → (was : Content) → IsOpenWith was (state g.S.Store old) → IsOpenWith (with_rows (rows_from c.args.batch.doc.now (c.args.batch.from + 1) t) was) (state g.S.Store new)) told c.in-Ok.ensures.ok;
      ran = subst (λ (t : List (List ℕ)). HasCleanDisk (state g.S.Store new) → RanAll g.S.Store (batch_of (rows_from c.args.batch.doc.now (c.args.batch.from + 1) t)) old new) told c.in-Ok.ensures.ran;
    })

pub returns : goal.returns
returns g c =
    let may = rw c.as_slice.ensures.value at (c.may_add.ensures.0 c.if-not-may_add.false) in
    let told = ap (map string_bytes) c.as_slice-2.ensures.value ∙ c.in_ok-texts.ensures.texts in
    let old = c.args.conn.now in
    let new = c.put_entries.new.conn in record {
      sent = sends g.S.Store c.args.batch.doc.now c.args.batch.from c.args.batch.entries.now old new c.args.docs.now.items c.add_kept.new.docs.items (map string_bytes c.as_slice-2.result.now) told may
          (some_from c.args.batch.entries.now (sym c.is_empty.ensures ∙ c.if-is_empty.false)) c.in_ok-texts.ensures.ok.1 (texts_writable c.as_slice-2.result.now c.args.batch.entries.now told) c.in_ok-texts.ensures.ok.0 c.put_entries.ensures.crash c.put_entries.ensures.commits;
      failed = λ clean. subst (λ (t : List (List ℕ)). FailsAmong g.S.Store (batch_of (rows_from c.args.batch.doc.now (c.args.batch.from + 1) t)) old new) told (c.in-Err.error, c.in-Err.ensures.err clean);
    }
