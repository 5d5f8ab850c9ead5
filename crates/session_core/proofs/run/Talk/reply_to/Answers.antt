use Rattle.std.proofs.Common.{sym, subst}
use Rattle.session_rules.specs.Session.{MayAnswerLine}
use Rattle.session_core.specs.OpenDocuments.{session_of}
use Rattle.session_core.specs.Owed.{AreCovered}
use Rattle.session_core.specs.Seats.{known_by}
use Rattle.session_core.specs.Serving.{rules_of, state_of}
use Rattle.session_core.proofs.Covering.{still_covered, seated-all}
use Rattle.session_core.proofs.run.Talk.reply_to.Goals as goal

pub note-requires : goal.note-requires
note-requires g c =
    record {
      noted =
          still_covered g.A.DocAccess.owes g.A.DocAccess.is_noted (g.W.Sink.covers c.args.sink.now) c.before-2.new.self c.step-response.new.access
          (subst (λ a. AreCovered (g.W.Sink.covers c.args.sink.now) (g.A.DocAccess.owes a)) (sym c.before-2.ensures) c.requires.covered) c.step-response.ensures.noted;
    }

pub returns-clause-answers : goal.returns-clause-answers
returns-clause-answers g c =
    let known = known_by g.A.DocAccess.seat_view in
    let os = c.args.self.now.session.now.opened.items in
    let ps = c.step-response.new.self.opened.items in
    let line = c.args.line.now.bytes.now in
    subst (λ ds. MayAnswerLine (rules_of g.A.DocAccess c.args.self.now.access.now) (state_of g.A.DocAccess c.args.self.now.access.now os) line c.step-response.result (session_of known ds ps))
    (sym c.note.ensures.documents)
    (subst (λ a. MayAnswerLine (rules_of g.A.DocAccess a) (state_of g.A.DocAccess a os) line c.step-response.result (state_of g.A.DocAccess c.step-response.new.access ps)) c.before-2.ensures
    c.step-response.ensures.does)

pub returns-clause-seats : goal.returns-clause-seats
returns-clause-seats g c =
    seated-all g.A.DocAccess.has_seat c.step-response.new.access c.note.new.self c.step-response.new.self.opened.items c.note.ensures.seats c.step-response.ensures.seats
