use Rattle.std.proofs.Common.{sym, subst}
use Rattle.crdt_rules.specs.Log.{IsGood}
use Rattle.replica_core.proofs.Keeping.{whole_log}
use Rattle.replica_core.proofs.replica.Replica.of_log.Goals as goal

pub new-requires : goal.new-requires
new-requires c = c.in_ok-tree.ensures.ok

pub invariant_of-result : goal.invariant_of-result
invariant_of-result c =
    whole_log c.args.name c.new.result c.keeps_name.ensures (subst IsGood (sym c.new.ensures.log) c.keeps_good.ensures) c.new.ensures.held
