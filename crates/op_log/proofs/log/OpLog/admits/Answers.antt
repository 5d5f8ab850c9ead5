use Rattle.std.proofs.Common.{◌≡◌, nat_lt, ◌||◌, true, false, sym, ap, ◌∙◌}
use Rattle.std.specs.Prelude.{is_some}
use Rattle.crdt_rules.specs.Fits.{last_counter}
use Rattle.op_log.proofs.LastCounters.{length-replicas-next}
use Rattle.op_log.proofs.log.OpLog.admits.Goals as goal

pub returns-then-is_some : goal.returns-then-is_some
returns-then-is_some c op same =
    let log = c.args.self.now.operations in
    let known : is_some (last_counter log op.id.replica) ≡ true =
    ap is_some same ∙ sym c.is_some.ensures ∙ c.if-is_some.true in
    c.if-is_some.true ∙ ap (λ b. b || nat_lt c.replica_count-count.result 256) (sym known)
    ∙ length-replicas-next op log c.replica_count-count.result c.replica_count-count.ensures.count c.replica_count-count.ensures.within

pub returns-else-is_some : goal.returns-else-is_some
returns-else-is_some c op same =
    let log = c.args.self.now.operations in
    let unknown : is_some (last_counter log op.id.replica) ≡ false =
    ap is_some same ∙ sym c.is_some.ensures ∙ c.if-is_some.false in
    ap (λ b. b || nat_lt c.replica_count-count.result 256) (sym unknown)
    ∙ length-replicas-next op log c.replica_count-count.result c.replica_count-count.ensures.count c.replica_count-count.ensures.within
