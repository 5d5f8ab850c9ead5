use Rattle.std.proofs.Common.{rules, inr, ◌≡◌, ◌+◌, ◌++◌, ◌∙◌, Err, ap, length, subst}
use Rattle.doc_rules.specs.Seats.{operation_ids}
use Rattle.locked_doc.specs.Followed.{copying}
use Rattle.stored_log.specs.Docs.{log_of}
use Rattle.served_log.specs.Known.{EndsWith}
use Rattle.served_log.proofs.Adding.{adds_of}
use Rattle.served_log.proofs.Knowing.{ends_next, known_kept, known_next, long_next}
use Rattle.served_log.proofs.batch.copy_some.Goals as goal

pub returns-clause-some : goal.returns-clause-some
returns-clause-some g c = λ some.
    let read : c.as_slice-2.result.now ≡ c.in-Ok.next = search rules in
    let many : length c.as_slice-5.result.now ≡ length c.as_slice-2.result.now = search rules in
    adds_of g.M.Marker.origin c.in_ok-from.ensures.ok read c.in-Ok.ensures.next c.in_ok-add_through.ensures.some many

pub returns-clause-known : goal.returns-clause-known
returns-clause-known g c =
    let read : c.as_slice-2.result.now ≡ c.in-Ok.next = search rules in
    let same : c.as_slice-3.result.now ≡ c.as_slice-2.result.now = search rules in
    let mid = c.next_at.new.seat in
    let told = c.in_ok-note_written.ensures.told ∙ ap (λ ops. copying mid.number mid.ids (mid.stored ++ operation_ids ops)) same in
    inr (known_next _ _ _ c.in_ok-from.ensures.ok read c.in-Ok.ensures.read c.in-Ok.ensures.grows c.in-Ok.ensures.stays.1 told c.in_ok-add_through.ensures.some)

pub returns-in_err-add_through-clause-known : goal.returns-in_err-add_through-clause-known
returns-in_err-add_through-clause-known g c =
    let fault = c.in_err-add_through.field-0.0 in
    let is : c.from_residual-in_err-add_through.result ≡ Err fault = search rules in
    known_kept (λ l. (g.L.StoredLog.log l).docs) c.args.document.now.name.now c.args.stored.now c.add_through.new.stored _ _ c.from_residual-in_err-add_through.result fault is c.in-Ok.ensures.grows c.in-Ok.ensures.stays.1 c.in_err-add_through.ensures.err

pub note_written-requires-clause-has : goal.note_written-requires-clause-has
note_written-requires-clause-has g c =
    let same : c.as_slice-2.result.now ≡ c.as_slice-3.result.now = search rules in
    subst (λ ops. EndsWith (g.L.StoredLog.log c.add_through.new.stored).docs c.args.document.now.name.now ops) same (ends_next c.in_ok-add_through.ensures.some)

pub note_written-requires-clause-behind : goal.note_written-requires-clause-behind
note_written-requires-clause-behind g c =
    let same : c.as_slice-2.result.now ≡ c.as_slice-3.result.now = search rules in
    let mid = c.next_at.new.seat in
    let published : length c.args.seat.now.stored ≡ c.in_ok-from.from = search rules in
    let told : length mid.stored ≡ c.in_ok-from.from = ap length c.in-Ok.ensures.stays.1 ∙ published in
    subst (λ ops. length mid.stored + length ops ≡ length (log_of c.args.document.now.name.now (g.L.StoredLog.log c.add_through.new.stored).docs)) same
    (long_next told c.in_ok-from.ensures.ok c.in_ok-add_through.ensures.some)
