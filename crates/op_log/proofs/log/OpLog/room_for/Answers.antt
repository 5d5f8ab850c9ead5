use Rattle.std.proofs.Common.{ℕ, ◌≤◌, ◌<◌, sym, subst, ◌∙◌}
use Rattle.op_log.proofs.Deciding.{room_full, room_replicas, room_left}
use Rattle.op_log.proofs.log.OpLog.room_for.Goals as goal

pub returns-then-len-ge-MAX_OPERATIONS : goal.returns-then-len-ge-MAX_OPERATIONS
returns-then-len-ge-MAX_OPERATIONS c op same =
    room_full c.args.self.now.operations op (subst (λ (n : ℕ). 100000 ≤ n) c.len.ensures.len c.if-len-ge-MAX_OPERATIONS.true)

pub returns-then-not-admits : goal.returns-then-not-admits
returns-then-not-admits c op same =
    room_replicas c.args.self.now.operations op (subst (λ (n : ℕ). n < 100000) c.len.ensures.len c.if-len-ge-MAX_OPERATIONS.false) (sym c.if-not-admits.true ∙ c.admits.ensures op same)

pub returns : goal.returns
returns c op same =
    room_left c.args.self.now.operations op (subst (λ (n : ℕ). n < 100000) c.len.ensures.len c.if-len-ge-MAX_OPERATIONS.false) (sym c.if-not-admits.false ∙ c.admits.ensures op same)
