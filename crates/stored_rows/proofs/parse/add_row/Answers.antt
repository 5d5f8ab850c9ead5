use Rattle.std.proofs.Common.{rules, ◌≡◌, ◌+◌, length, ◌∙◌, ◌++◌, ◌∷◌, [], sym, subst, arith}
use Rattle.std.proofs.lemmas.Result.{on_ok_weaker}
use Rattle.lamport_id.proofs.Names.{IsUtf8-name}
use Rattle.stored_rows.specs.Parsed.{HasRows}
use Rattle.stored_log.specs.Docs.{op_text, log_of}
use Rattle.stored_rows.proofs.BatchLemmas.{adds_one}
use Rattle.stored_rows.proofs.NextLemmas.{same_entry, next_shaped, next_place, wanting, read_as, only_memory}
use Rattle.stored_rows.proofs.parse.add_row.Goals as goal

pub returns-clause-ok : goal.returns-clause-ok
returns-clause-ok c =
    let name = c.in_ok-name.name.now in
    let op = c.in_ok-entry.entry in
    let may = rw c.as_slice.ensures.value at (c.may_follow.ensures.0 c.if-not-may_follow.false) in
    let told = c.in_ok-entry.ensures.ok in
    on_ok_weaker c.add_one.result (λ it rows held.
    subst (λ r. HasRows c.args.format (rows ++ r ∷ []) c.add_one.new.docs.items) (sym c.in_ok-name.ensures.ok)
    (adds_one c.args.format name c.in_ok-name.place c.in_ok-name.text.now op c.args.docs.now.items c.add_one.new.docs.items rows c.in_ok-entry.ensures.in_format (omega arith) may.0 may.1 told c.in_ok-name.ensures.text it.1 it.0 held)) c.add_one.ensures.ok

pub returns-in_err-name-clause-accepts : goal.returns-in_err-name-clause-accepts
returns-in_err-name-clause-accepts c name op h =
    let docs = c.args.docs.now.items in
    let memory = c.in_err-name.ensures.accepts name (op_text op) (length (log_of name docs) + 1) (IsUtf8-name name h.named) (next_place c.args.format docs c.args.row.now name op h) h.writable.0 h.is_row in
    search rules

pub returns-in_err-entry-clause-accepts : goal.returns-in_err-entry-clause-accepts
returns-in_err-entry-clause-accepts c name op h =
    let docs = c.args.docs.now.items in
    let same = same_entry _ _ _ _ _ _ (sym c.in_ok-name.ensures.ok ∙ h.is_row) in
    let told = sym same.2 in
    let memory = wanting c.in_err-entry.field-0.0 op (c.in_err-entry.ensures.accepts op (next_shaped c.args.format docs c.args.row.now name op h) h.writable.1 told) in
    search rules

pub returns-clause-accepts : goal.returns-clause-accepts
returns-clause-accepts c name op h =
    let docs = c.args.docs.now.items in
    let same = same_entry _ _ _ _ _ _ (sym c.in_ok-name.ensures.ok ∙ h.is_row) in
    let told = sym same.2 in
    let read = read_as op c.in_ok-entry.entry (c.in_ok-entry.ensures.accepts op (next_shaped c.args.format docs c.args.row.now name op h) h.writable.1 told) in
    let named = same.0 in
    only_memory (c.add_one.new.docs.items ≡ docs) c.add_one.result c.add_one.ensures.err (λ refused. c.add_one.ensures.refused refused (rw (named, read) h.good))

pub returns-clause-added : goal.returns-clause-added
returns-clause-added c name op h =
    let docs = c.args.docs.now.items in
    let same = same_entry _ _ _ _ _ _ (sym c.in_ok-name.ensures.ok ∙ h.is_row) in
    let told = sym same.2 in
    let read = read_as op c.in_ok-entry.entry (c.in_ok-entry.ensures.accepts op (next_shaped c.args.format docs c.args.row.now name op h) h.writable.1 told) in
    let named = same.0 in
    on_ok_weaker c.add_one.result (λ found. rw (named, read) at found.0) c.add_one.ensures.ok
