use Rattle.std.proofs.Common.{◌≤◌, subst}
use Rattle.std.proofs.lemmas.Result.{MatchResult-weaker}
use Rattle.run_core.proofs.Seating.{none_unopened, one_is_right}
use Rattle.run_core.proofs.documents.Seated.gather.Goals as goal

pub returns-clause-unopened : goal.returns-clause-unopened
returns-clause-unopened g c =
    let d = c.args.self.locked in
    MatchResult-weaker c.gather.result c.gather.ensures.err (λ totals p. tt)
    (λ back p unopened none. none_unopened d.number d.document c.args.ends.items back.refusal p.2 unopened none)

pub returns-clause-given_back : goal.returns-clause-given_back
returns-clause-given_back g c =
    let d = c.args.self.locked in
    let few : d.document.opened ≤ 1 = subst (λ k. d.document.opened ≤ k) c.args.self.one_seat c.keeps_sound.ensures.sound.few in
    MatchResult-weaker c.gather.result c.gather.ensures.err (λ totals p. tt)
    (λ back p end given told. one_is_right d.number d.document c.args.ends.items end back.refusal p.2 few given told)

pub returns-clause-ok : goal.returns-clause-ok
returns-clause-ok g c = c.gather.ensures.ok

pub returns-clause-err : goal.returns-clause-err
returns-clause-err g c = c.gather.ensures.err
