use Rattle.std.proofs.Common.{List, inl, refl, ap, subst, ◌∙◌}
use Rattle.doc_api.specs.Words.{Op}
use Rattle.crdt_rules.specs.Fits.{Fits}
use Rattle.doc_rules.specs.Cause.{cause_of}
use Rattle.doc_rules.specs.Events.{logged}
use Rattle.replica_core.specs.Whole.{replica_with}
use Rattle.replica_core.proofs.Meeting.{meets_logged, meets_lacking, meets_ready, meets_refused}
use Rattle.replica_core.proofs.body.Body.deliver_ready.Goals as goal

pub log_and_drain-requires : goal.log_and_drain-requires
log_and_drain-requires c = subst (Fits c.args.op) c.log.ensures.log (c.in-Ok.ensures.fits.0 refl)

pub returns-in-Ok-log_and_drain : goal.returns-in-Ok-log_and_drain
returns-in-Ok-log_and_drain c name =
    let r = replica_with name c.args.self.now in
    let s = replica_with name c.log_and_drain.new.self in
    meets_ready r c.args.op (cause_of c.args.op c.args.self.now.log) _ s (c.in-Ok.ensures.cause ∙ ap (λ (l : List Op). cause_of c.args.op l) c.log.ensures.log)
    (inl (meets_logged r c.args.op c.in-Ok-log_and_drain.applied s (c.in-Ok-log_and_drain.ensures.ok name)))

pub returns-in-Err-log_and_drain : goal.returns-in-Err-log_and_drain
returns-in-Err-log_and_drain c name =
    let r = replica_with name c.args.self.now in
    let s = replica_with name c.log_and_drain.new.self in
    meets_ready r c.args.op (cause_of c.args.op c.args.self.now.log) _ s (c.in-Ok.ensures.cause ∙ ap (λ (l : List Op). cause_of c.args.op l) c.log.ensures.log)
    (meets_lacking r (logged c.args.op) c.in-Err-log_and_drain.refusal s tt c.in-Err-log_and_drain.ensures.err (ap (replica_with name) c.in-Err-log_and_drain.ensures.same))

pub returns-in-Err : goal.returns-in-Err
returns-in-Err c name =
    let r = replica_with name c.args.self.now in
    meets_refused r c.args.op (cause_of c.args.op c.args.self.now.log) c.in-Err.cause r (c.in-Err.ensures.cause ∙ ap (λ (l : List Op). cause_of c.args.op l) c.log.ensures.log) refl
