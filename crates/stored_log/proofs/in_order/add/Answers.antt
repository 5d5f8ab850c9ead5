use Rattle.std.proofs.Common.{rules, ◌≡◌, ◌++◌, set, Err, ap, sym, subst, ◌∙◌}
use Rattle.std.specs.List.{insert}
use Rattle.std.proofs.lemmas.Result.{on_ok_weaker}
use Rattle.crdt_rules.specs.Log.{IsGood}
use Rattle.stored_log.specs.declared.fault.Fault.TheVariants.{Refused}
use Rattle.stored_log.specs.Docs.{Doc, longer_by}
use Rattle.stored_log.proofs.InOrder.{log_at_place, extend_at_place, log_in_gap, put_in_gap}
use Rattle.stored_log.proofs.in_order.add.Goals as goal

pub returns-in_err-doc-in-Err-clause-refused : goal.returns-in_err-doc-in-Err-clause-refused
returns-in_err-doc-in-Err-clause-refused c h good =
    let none = log_in_gap c.args.docs.now.items c.args.name.now c.in-Err.at (rw c.as_slice.ensures.value at c.in-Err.ensures) in
    let same : c.made.result ≡ Err Refused = search rules in
    c.made.ensures.refused same (rw none at good)

pub returns-in-Ok-clause-ok : goal.returns-in-Ok-clause-ok
returns-in-Ok-clause-ok c =
    let docs = c.args.docs.now.items in
    let name = c.args.name.now in
    let more = c.args.entries.now in
    let doc = c.index_mut-doc.result.now in
    let place = rw c.as_slice.ensures.value at c.in-Ok.ensures in
    let is = c.index_mut-doc.ensures.value in
    let log = ap (λ (d : Doc). d.log) is ∙ sym (log_at_place docs name c.in-Ok.at c.requires place doc) in
    on_ok_weaker c.add.result (λ (new : (c.add.new.self ≡ longer_by more doc) × IsGood (doc.log ++ more)). (
      ap (set docs c.in-Ok.at) new.0 ∙ ap (λ d. set docs c.in-Ok.at (longer_by more d)) is ∙ extend_at_place docs name c.in-Ok.at c.requires place doc more,
      subst (λ l. IsGood (l ++ more)) log new.1,
    )) c.add.ensures.ok

pub returns-in-Ok-clause-refused : goal.returns-in-Ok-clause-refused
returns-in-Ok-clause-refused c h good =
    let docs = c.args.docs.now.items in
    let doc = c.index_mut-doc.result.now in
    let place = rw c.as_slice.ensures.value at c.in-Ok.ensures in
    let log = log_at_place docs c.args.name.now c.in-Ok.at c.requires place doc ∙ ap (λ (d : Doc). d.log) (sym c.index_mut-doc.ensures.value) in
    c.add.ensures.refused h (subst (λ l. IsGood (l ++ c.args.entries.now)) log good)

pub returns-in_ok-doc-in-Err-clause-ok : goal.returns-in_ok-doc-in-Err-clause-ok
returns-in_ok-doc-in-Err-clause-ok c =
    let docs = c.args.docs.now.items in
    let name = c.args.name.now in
    let more = c.args.entries.now in
    let gap = rw c.as_slice.ensures.value at c.in-Err.ensures in
    let made = c.in_ok-doc-in-Err.ensures.ok in
    on_ok_weaker c.put.result (λ (h : c.put.new.docs.items ≡ insert docs c.in-Err.at c.in_ok-doc-in-Err.doc). (
      h ∙ ap (insert docs c.in-Err.at) made.0 ∙ put_in_gap docs name c.in-Err.at gap more,
      rw (log_in_gap docs name c.in-Err.at gap) made.1,
    )) c.put.ensures.ok
