use Rattle.std.proofs.Common.{◌≡◌, [], List, inr, refl, sym, ap, subst, ◌∙◌}
use Rattle.doc_api.specs.Words.{Op}
use Rattle.crdt_rules.specs.Fits.{Fits}
use Rattle.doc_rules.specs.Events.{logged}
use Rattle.doc_rules.specs.Replica.{own_op}
use Rattle.doc_rules.proofs.OwnFits.{own_fits}
use Rattle.doc_rules.proofs.Resolved.{ok≢err}
use Rattle.replica_core.specs.Outcomes.{Meets, reply_of_applied}
use Rattle.replica_core.specs.Whole.{replica_of, replica_with}
use Rattle.replica_core.proofs.Meeting.{meets_outcome}
use Rattle.replica_core.proofs.Lacking.{answered}
use Rattle.replica_core.proofs.body.Body.log_own.Goals as goal

pub own_operation-requires : goal.own_operation-requires
own_operation-requires c =
    let at = c.requires.place (λ e. ok≢err (sym e)) in
    subst (λ (l : List Op). Fits (own_op (replica_of c.args.name l []) c.args.cursor c.args.mutation) l) (sym c.log.ensures.log)
    (own_fits (replica_with c.args.name c.args.self.now) at.0 at.1 c.args.cursor c.args.mutation c.requires.named c.keeps_limits.ensures c.log.ensures.good at.2 c.requires.unopposed)

pub log_and_drain-requires : goal.log_and_drain-requires
log_and_drain-requires c =
    let at = c.requires.place (λ e. ok≢err (sym e)) in
    let same : c.in-Ok.op ≡ own_op (replica_with c.args.name c.args.self.now) c.args.cursor c.args.mutation =
    answered c.in-Ok.ensures ∙ ap (λ (l : List Op). own_op (replica_of c.args.name l []) c.args.cursor c.args.mutation) c.log.ensures.log in
    subst (λ (o : Op). Fits o c.args.self.now.log) (sym same)
    (own_fits (replica_with c.args.name c.args.self.now) at.0 at.1 c.args.cursor c.args.mutation c.requires.named c.keeps_limits.ensures c.log.ensures.good at.2 c.requires.unopposed)

pub returns-in-Ok : goal.returns-in-Ok
returns-in-Ok c =
    let r = replica_with c.args.name c.args.self.now in
    let s = replica_with c.args.name c.log_and_drain.new.self in
    let same : c.in-Ok.op ≡ own_op r c.args.cursor c.args.mutation =
    answered c.in-Ok.ensures ∙ ap (λ (l : List Op). own_op (replica_of c.args.name l []) c.args.cursor c.args.mutation) c.log.ensures.log in
    subst (λ (o : Op). Meets r (logged o) (reply_of_applied c.log_and_drain.result) s) same
    (meets_outcome c.args.name c.args.self.now c.log_and_drain.new.self c.in-Ok.op c.log_and_drain.result (c.log_and_drain.ensures.ok c.args.name)
    c.log_and_drain.ensures.err c.log_and_drain.ensures.same)

pub returns-in-Err : goal.returns-in-Err
returns-in-Err c = inr (tt, (refl, refl))
