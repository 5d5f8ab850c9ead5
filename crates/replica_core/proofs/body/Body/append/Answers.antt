use Rattle.std.proofs.Common.{◌≤◌, length, ap, sym, subst}
use Rattle.std.proofs.lemmas.Result.{err_from_is_err_and}
use Rattle.crdt_rules.specs.Fits.{Fits}
use Rattle.hold_buffer.specs.Held.{IsCurrent}
use Rattle.replica_core.specs.Whole.{Contents}
use Rattle.replica_core.proofs.body.Body.append.Goals as goal

pub log_op-requires-clause-fits : goal.log_op-requires-clause-fits
log_op-requires-clause-fits c = subst (Fits c.args.op) (sym (ap (λ (b : Contents). b.log) c.self.view_is)) c.requires

pub log_op-requires-clause-agrees : goal.log_op-requires-clause-agrees
log_op-requires-clause-agrees c = c.self.invariant.agrees

pub invariant_of-self : goal.invariant_of-self
invariant_of-self c = record {
  agrees = c.log_op.ensures.agrees;
  current = subst (IsCurrent c.self.inside.held) (sym c.in_err-log_op.ensures.kept) c.self.invariant.current;
  few = c.self.invariant.few;
}

pub invariant_of-self-2 : goal.invariant_of-self-2
invariant_of-self-2 c = record {
  agrees = c.log_op.ensures.agrees;
  current = subst (IsCurrent c.logged.new.self) (sym c.in_ok-log_op.ensures.ok)
      (c.logged.ensures.current c.self.inside.log.operations c.args.op (sym c.id-id.ensures.value) c.self.invariant.current);
  few = subst (λ h. length h ≤ 256) (sym c.logged.ensures.held) c.self.invariant.few;
}

pub returns-in_err-log_op-clause-same : goal.returns-in_err-log_op-clause-same
returns-in_err-log_op-clause-same c =
    let exit = err_from_is_err_and c.from_residual.result c.from_residual.ensures.1 in
    rw (← c.self.view_is, exit.1) (λ i. record { log = c.in_err-log_op.ensures.kept i; held = c.self.inside.held.held })

pub returns-clause-ok : goal.returns-clause-ok
returns-clause-ok c = rw (← c.self.view_is) (λ i. record { log = c.in_ok-log_op.ensures.ok i; held = c.logged.ensures.held i })
