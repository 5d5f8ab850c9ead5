use Rattle.std.proofs.Common.{◌≤◌, length, sym, subst, arith}
use Rattle.replica_core.proofs.body.Body.new.Goals as goal

pub invariant_of-result : goal.invariant_of-result
invariant_of-result c = record {
  agrees = c.requires;
  current = c.new.ensures.current c.args.log.operations;
  few = subst (λ h. length h ≤ 256) (sym c.new.ensures.held) (omega arith);
}
