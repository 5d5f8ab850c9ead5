use Rattle.std.proofs.Common.{◌≡◌, ℕ, List, [], ap, arith, ◌+◌, ◌∙◌, sym, length, map, rules}
use Rattle.std.proofs.lemmas.List.{length_push}
use Rattle.std.specs.Borrow.{Bor}
use Rattle.served_log.proofs.Restored.{all_seated, begins_here, named_here, no_name, one_restored}
use Rattle.served_log.proofs.Knowing.{one_seated}
use Rattle.served_log.proofs.restore.restore_all.Goals as goal

pub restore_one-requires-clause-begun : goal.restore_one-requires-clause-begun
restore_one-requires-clause-begun g c =
    let none : Bor (List ℕ) = record { ref_ptr = (0, 0); now = [] } in
    begins_here g.M.Marker.origin (g.L.StoredLog.log c.args.from.now.stored.now).docs c.args.names.now c.loop-name.ledger c.loop-name.name-index none c.requires.begun c.loop-name.invariant.next c.loop-name-test.true

pub restore_one-requires-clause-named : goal.restore_one-requires-clause-named
restore_one-requires-clause-named g c = named_here (g.L.StoredLog.log c.args.from.now.stored.now).docs (map (λ s. s.now) c.args.names.now) c.args.from.now.replica.now g.M.Marker.origin c.loop-name.ledger c.requires.begun

pub loop-name-preserved : goal.loop-name-preserved
loop-name-preserved g c =
    let at = c.loop-name in
    let none : Bor (List ℕ) = record { ref_ptr = (0, 0); now = [] } in
    let docs = at.docs.items in
    let new = c.push_doc.new.docs.items in
    let doc = c.in_ok-doc.doc in
    let pushed = c.in_ok-push_doc.ensures.ok in record {
      next = c.in_ok-doc.ensures.next ∙ ap (λ n. n + 1) at.invariant.next;
      documents = one_restored c.args.from.now.replica.now (g.L.StoredLog.log c.args.from.now.stored.now).docs c.args.from.now.seats c.args.names.now at.name-index none docs new doc c.loop-name-test.true pushed c.in_ok-doc.ensures.made at.invariant.documents;
      each = ap length pushed ∙ length_push docs doc ∙ ap (λ n. n + 1) at.invariant.each;
      seated = ap length c.in_ok-push.ensures.ok ∙ length_push at.seats c.in_ok-doc.seat ∙ ap (λ n. n + 1) at.invariant.seated;
      known = one_seated (g.L.StoredLog.log c.args.from.now.stored.now).docs c.args.names.now at.name-index no_name at.seats _ c.in_ok-doc.seat c.loop-name-test.true at.invariant.seated c.in_ok-push.ensures.ok
          c.in_ok-doc.ensures.seat.1 c.in_ok-doc.ensures.stored at.invariant.known;
    }

pub loop-name-init : goal.loop-name-init
loop-name-init g c = record {
  next = search rules;
  documents = search rules;
  each = search rules;
  seated = search rules;
  known = λ k none. absurd (omega (arith, none));
}

pub push-requires : goal.push-requires
push-requires g c = c.in_ok-doc.ensures.seat.0 ∙ (c.loop-name.invariant.next ∙ sym c.loop-name.invariant.seated)

pub returns-clause-known : goal.returns-clause-known
returns-clause-known g c =
    let all : c.loop-name.name-index ≡ length c.args.names.now = search rules in
    all_seated (g.L.StoredLog.log c.args.from.now.stored.now).docs c.args.names.now c.loop-name.name-index c.loop-name.seats all c.loop-name.invariant.seated c.loop-name.invariant.known
