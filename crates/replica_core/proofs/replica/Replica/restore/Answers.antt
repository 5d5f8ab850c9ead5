use Rattle.std.proofs.Common.{sym, subst, ◌∙◌}
use Rattle.crdt_rules.specs.Log.{IsGood}
use Rattle.replica_core.specs.AgreesWith.{AgreesWith}
use Rattle.replica_core.proofs.Keeping.{whole_log}
use Rattle.replica_core.proofs.replica.Replica.restore.Goals as goal

pub new-requires : goal.new-requires
new-requires c = subst (AgreesWith c.in-Ok.tree) (sym c.in-Ok.ensures.log) c.in-Ok.ensures.agrees

pub invariant_of-result : goal.invariant_of-result
invariant_of-result c =
    whole_log c.args.name c.new.result c.keeps_name.ensures (subst IsGood (sym (c.new.ensures.log ∙ c.in-Ok.ensures.log)) c.in-Ok.ensures.good) c.new.ensures.held
