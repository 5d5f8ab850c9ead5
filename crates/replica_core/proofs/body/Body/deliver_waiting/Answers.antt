use Rattle.std.proofs.Common.{◌≤◌, ◌<◌, List, length, inl, inr, refl, ap, ◌∙◌, arith}
use Rattle.json_scalar.specs.declared.refusal.Refusal.TheVariants.{NoMemory}
use Rattle.doc_api.specs.Words.{Op}
use Rattle.doc_api.specs.declared.reply.Reply.TheVariants as reply
use Rattle.crdt_rules.specs.Dependencies.{missing}
use Rattle.replica_core.specs.Whole.{replica_with}
use Rattle.replica_core.proofs.Meeting.{meets_as, waiting_full, waiting_held}
use Rattle.replica_core.proofs.Lacking.{answered}
use Rattle.replica_core.proofs.body.Body.deliver_waiting.Goals as goal

pub returns-then-len-ge-MAX_HELD : goal.returns-then-len-ge-MAX_HELD
returns-then-len-ge-MAX_HELD c name =
    let r = replica_with name c.args.self.now in
    let full : 256 ≤ length c.args.self.now.held = omega (arith, c.len.ensures.len, ap length c.held.ensures.held, c.if-len-ge-MAX_HELD.true) in
    meets_as r _ _ _ r (waiting_full c.args.op (length c.args.self.now.held) full) (inl (refl, refl))

pub hold_until-requires-clause-room : goal.hold_until-requires-clause-room
hold_until-requires-clause-room c = omega (arith, c.len.ensures.len, ap length c.held.ensures.held, c.if-len-ge-MAX_HELD.false)

pub hold_until-requires-clause-missed : goal.hold_until-requires-clause-missed
hold_until-requires-clause-missed c = answered c.in-Ok.ensures ∙ ap (λ (l : List Op). missing c.args.op l) c.log.ensures.log

pub returns-in-Ok : goal.returns-in-Ok
returns-in-Ok c name =
    let r = replica_with name c.args.self.now in
    let s = replica_with name c.hold_until.new.self in
    let room : length c.args.self.now.held < 256 = omega (arith, c.len.ensures.len, ap length c.held.ensures.held, c.if-len-ge-MAX_HELD.false) in
    meets_as r _ _ _ s (waiting_held c.args.op (length c.args.self.now.held) room) (c.hold_until.ensures name)

pub returns-in-Err : goal.returns-in-Err
returns-in-Err c name =
    let r = replica_with name c.args.self.now in
    let room : length c.args.self.now.held < 256 = omega (arith, c.len.ensures.len, ap length c.held.ensures.held, c.if-len-ge-MAX_HELD.false) in
    meets_as r _ _ (reply.Refused NoMemory) r (waiting_held c.args.op (length c.args.self.now.held) room) (inr (tt, (refl, refl)))
