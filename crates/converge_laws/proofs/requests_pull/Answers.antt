use Rattle.std.proofs.Common.{◌++◌, map, ap, ◌∙◌}
use Rattle.doc_rules.specs.Replica.{Replica}
use Rattle.converge_laws.specs.Fetch.{applied}
use Rattle.converge_laws.proofs.Fetched as Laws
use Rattle.converge_laws.proofs.requests_pull.Goals as goal

pub returns-clause-reply : goal.returns-clause-reply
returns-clause-reply c = λ r other counts limit reply. ((λ h. h), (λ h. h))

pub returns-clause-may : goal.returns-clause-may
returns-clause-may c = Laws.may_go_on

pub returns-clause-ends : goal.returns-clause-ends
returns-clause-ends c = Laws.may_fetch_all

pub returns-clause-first : goal.returns-clause-first
returns-clause-first c = λ r other s replies may h.
    let all = Laws.fetched may h in
    ap (λ (z : Replica). z.log) all.after ∙ ap (λ l. r.log ++ l) (Laws.first_is all)

pub returns-clause-applied : goal.returns-clause-applied
returns-clause-applied c = λ r other s replies may h.
    let all = Laws.fetched may h in
    all.replies_are ∙ ap (map applied) (Laws.first_is all)

pub returns-clause-held : goal.returns-clause-held
returns-clause-held c = λ r other s replies may h. ap (λ (z : Replica). z.held) (Laws.fetched may h).after ∙ may.none_held

pub returns-clause-pulled : goal.returns-clause-pulled
returns-clause-pulled c = Laws.fetched_all

pub returns-clause-members : goal.returns-clause-members
returns-clause-members c = λ r other s t may back all all_back. (Laws.fetched_both r other s t may back all all_back).0

pub returns-clause-facts : goal.returns-clause-facts
returns-clause-facts c = λ r other s t may back all all_back. (Laws.fetched_both r other s t may back all all_back).1
