use Rattle.std.proofs.Common.{◌≡◌, inl, inr, length, refl, rules, sym, subst, IsTrue}
use Rattle.server_core.specs.Pacing.{IsDue}
use Rattle.server_core.proofs.Waiting.{still_waits, written_all}
use Rattle.server_core.proofs.settling.SettlingSink.owe.Goals as goal

pub returns-then-not-raise-clause-covers : goal.returns-then-not-raise-clause-covers
returns-then-not-raise-clause-covers g c = inl refl

pub returns-then-not-raise-clause-covered : goal.returns-then-not-raise-clause-covered
returns-then-not-raise-clause-covered g c = λ document count waits. inl refl

pub returns-clause-covers : goal.returns-clause-covers
returns-clause-covers g c =
    let dues = c.args.self.now.dues in
    let new = c.raise.new.dues in
    let all : dues.len ≡ length new = search rules in
    let yes : IsTrue c.raise.result = search rules in
    inr (subst (λ ds. IsDue ds c.args.document c.args.count) (sym (written_all new dues.items dues.len all)) (c.raise.ensures.there yes))

pub returns-clause-covered : goal.returns-clause-covered
returns-clause-covered g c =
    let dues = c.args.self.now.dues in
    let new = c.raise.new.dues in
    let all : dues.len ≡ length new = search rules in
    still_waits c.args.self.now.is_shut dues.items _ (λ document count due.
    subst (λ ds. IsDue ds document count) (sym (written_all new dues.items dues.len all))
    (c.raise.ensures.stay document count (subst (λ ds. IsDue ds document count) (sym c.as_mut_slice.ensures.value) due)))
