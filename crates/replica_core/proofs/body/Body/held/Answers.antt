use Rattle.std.proofs.Common.{◌≤◌, length, ap, subst}
use Rattle.hold_buffer.specs.Held.{IsCurrent}
use Rattle.replica_core.specs.Whole.{Contents}
use Rattle.replica_core.proofs.body.Body.held.Goals as goal

pub returns-clause-held : goal.returns-clause-held
returns-clause-held c = ap (λ (b : Contents). b.held) c.self.view_is

pub returns-clause-current : goal.returns-clause-current
returns-clause-current c = subst (IsCurrent c.self.inside.held) (ap (λ (b : Contents). b.log) c.self.view_is) c.self.invariant.current

pub returns-clause-few : goal.returns-clause-few
returns-clause-few c = subst (λ (b : Contents). length b.held ≤ 256) c.self.view_is c.self.invariant.few
