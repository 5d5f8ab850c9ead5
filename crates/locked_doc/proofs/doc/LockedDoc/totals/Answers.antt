use Rattle.std.proofs.Common.{◌≡◌, ◌∙◌, length, sum, ap, subst, arith}
use Rattle.doc_rules.specs.Document.{IsSound}
use Rattle.doc_rules.specs.Seats.{told_counts}
use Rattle.locked_doc.specs.Locked.{Begins, Locked}
use Rattle.locked_doc.proofs.Begun.{acknowledged_and_begun}
use Rattle.locked_doc.proofs.doc.LockedDoc.totals.Goals as goal

pub sum_of-requires : goal.sum_of-requires
sum_of-requires g c =
    let d = c.args.self.now in
    let kept = subst (λ (x : Locked). IsSound x.document × Begins (g.M.Marker.origin x.number) x.document) c.self.view_is (c.self.invariant.0.sound, c.self.invariant.1) in
    let all = acknowledged_and_begun (g.M.Marker.origin d.number) d.number d.document c.args.ends.now kept c.requires in
    let counts : c.as_slice.result.now ≡ told_counts c.args.ends.now = c.as_slice.ensures.value ∙ c.in_ok-by_seat.ensures.ok in
    let logged : c.len-logged.result ≡ length d.document.replica.log = c.len-logged.ensures.len ∙ (ap length c.log.ensures.log ∙ ap (λ (x : Locked). length x.document.replica.log) c.self.view_is) in
    omega (arith, all, ap sum counts, logged, c.len-logged.type_inv)

pub returns-clause-ok : goal.returns-clause-ok
returns-clause-ok g c =
    let counts : c.as_slice.result.now ≡ told_counts c.args.ends.now = c.as_slice.ensures.value ∙ c.in_ok-by_seat.ensures.ok in
    let accepted = c.sum_of.ensures ∙ ap sum counts in
    let logged : c.len-logged.result ≡ length c.args.self.now.document.replica.log = c.len-logged.ensures.len ∙ (ap length c.log.ensures.log ∙ ap (λ (x : Locked). length x.document.replica.log) c.self.view_is) in
    λ i. record { accepted = accepted i; by_seat = c.in_ok-by_seat.ensures.ok i; logged = logged i; copied = (c.self.view_is i).document.copied }

pub returns-clause-all : goal.returns-clause-all
returns-clause-all g c =
    let d = c.args.self.now in
    let kept = subst (λ (x : Locked). IsSound x.document × Begins (g.M.Marker.origin x.number) x.document) c.self.view_is (c.self.invariant.0.sound, c.self.invariant.1) in
    let all = acknowledged_and_begun (g.M.Marker.origin d.number) d.number d.document c.args.ends.now kept c.requires in
    let counts : c.as_slice.result.now ≡ told_counts c.args.ends.now = c.as_slice.ensures.value ∙ c.in_ok-by_seat.ensures.ok in
    let logged : c.len-logged.result ≡ length d.document.replica.log = c.len-logged.ensures.len ∙ (ap length c.log.ensures.log ∙ ap (λ (x : Locked). length x.document.replica.log) c.self.view_is) in
    omega (arith, all, c.sum_of.ensures, ap sum counts, logged)
