use Rattle.std.proofs.Common.{List, subst, if◌then◌else◌}
use Rattle.json_scalar.specs.declared.refusal.Refusal.TheVariants.{IdConflict}
use Rattle.doc_api.specs.Words.{Op}
use Rattle.doc_api.specs.declared.reply.Reply.TheVariants as reply
use Rattle.crdt_rules.specs.Dependencies.{missing}
use Rattle.doc_rules.specs.Events.{replied, no}
use Rattle.replica_core.specs.Outcomes.{Meets, reply_of_delivered}
use Rattle.doc_rules.specs.Replica.{find_id}
use Rattle.replica_core.specs.Whole.{replica_with}
use Rattle.replica_core.proofs.Meeting.{meets_as, none_found, delivered_held}
use Rattle.replica_core.proofs.body.Body.deliver_unlogged.Goals as goal

pub deliver_new-requires-clause-unheld : goal.deliver_new-requires-clause-unheld
deliver_new-requires-clause-unheld c = none_found c.args.op (find_id c.args.self.now.held c.args.op.id) c.in-None.ensures

pub returns-in-Some : goal.returns-in-Some
returns-in-Some c =
    let r = replica_with c.args.name c.args.self.now in
    meets_as r _ _ _ r (delivered_held r c.args.op c.in-Some.is_same c.requires c.in-Some.ensures)
    (subst (λ (l : List Op). Meets r (if c.in-Some.is_same then replied (reply.Held (missing c.args.op l)) else no IdConflict) (reply_of_delivered c.held_or_conflict.result) r)
    c.log.ensures.log (c.held_or_conflict.ensures r))
