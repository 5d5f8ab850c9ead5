use Rattle.std.proofs.Common.{◌≡◌, length, rules, sym, subst}
use Rattle.server_core.specs.Pacing.{ArePaid, IsDue}
use Rattle.server_core.proofs.Waiting.{still_waits, written_all}
use Rattle.server_core.proofs.settling.Settling.settle.Goals as goal

pub returns-clause-paid : goal.returns-clause-paid
returns-clause-paid g c = λ yes.
    let dues = c.args.self.now.dues in
    let new = c.pay_all.new.dues in
    let all : dues.len ≡ length new = search rules in
    subst (ArePaid c.args.self.now.progress.now.pace) (sym (written_all new dues.items dues.len all)) (c.pay_all.ensures.paid yes)

pub returns-clause-stay : goal.returns-clause-stay
returns-clause-stay g c =
    let dues = c.args.self.now.dues in
    let new = c.pay_all.new.dues in
    let all : dues.len ≡ length new = search rules in
    still_waits c.args.self.now.is_shut dues.items _ (λ document count due.
    subst (λ ds. IsDue ds document count) (sym (written_all new dues.items dues.len all))
    (c.pay_all.ensures.stay document count (subst (λ ds. IsDue ds document count) (sym c.as_mut_slice.ensures.value) due)))
