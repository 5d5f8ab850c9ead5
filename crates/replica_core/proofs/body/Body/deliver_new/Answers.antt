use Rattle.std.proofs.Common.{List, inl, refl, sym, ap, ◌∙◌}
use Rattle.doc_api.specs.Words.{Op}
use Rattle.crdt_rules.specs.Dependencies.{is_ready}
use Rattle.replica_core.specs.Whole.{replica_with}
use Rattle.replica_core.proofs.Meeting.{meets_as, delivered_own, delivered_ready, delivered_waiting}
use Rattle.replica_core.proofs.body.Body.deliver_new.Goals as goal

pub returns-then-is_by : goal.returns-then-is_by
returns-then-is_by c =
    let r = replica_with c.args.name c.args.self.now in
    meets_as r _ _ _ r (delivered_own r c.args.op c.requires.new c.requires.unheld (sym c.if-is_by.true ∙ c.is_by.ensures)) (inl (refl, refl))

pub returns-then-is_ready : goal.returns-then-is_ready
returns-then-is_ready c =
    let r = replica_with c.args.name c.args.self.now in
    let ready = sym c.if-is_ready.true ∙ c.is_ready.ensures ∙ ap (λ (l : List Op). is_ready c.args.op l) c.log.ensures.log in
    meets_as r _ _ _ _ (delivered_ready r c.args.op c.requires.new c.requires.unheld (sym c.if-is_by.false ∙ c.is_by.ensures) ready) (c.deliver_ready.ensures c.args.name)

pub returns-else-is_ready : goal.returns-else-is_ready
returns-else-is_ready c =
    let r = replica_with c.args.name c.args.self.now in
    let waits = sym c.if-is_ready.false ∙ c.is_ready.ensures ∙ ap (λ (l : List Op). is_ready c.args.op l) c.log.ensures.log in
    meets_as r _ _ _ _ (delivered_waiting r c.args.op c.requires.new c.requires.unheld (sym c.if-is_by.false ∙ c.is_by.ensures) waits) (c.deliver_waiting.ensures c.args.name)
