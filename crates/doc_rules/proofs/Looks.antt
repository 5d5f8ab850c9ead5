-- A look at a tree that has the facts and the roles of a log is a look at what the log makes.
use Rattle.std.proofs.Common.{◌≡◌, List, Option, Result, Ok, Err, sym, ap, subst, ◌∙◌}
use Rattle.std.specs.Prelude.{MatchResult, option_and_then}
use Rattle.doc_api.specs.Words.{Id, Refusal, Op, Cursor, Key, Tagged}
use Rattle.doc_api.specs.declared.ask.Counts.{Counts}
use Rattle.doc_api.specs.declared.ask.Look.{Look}
use Rattle.doc_api.specs.declared.ask.Query.TheVariants as query
use Rattle.doc_api.specs.declared.place.Place.{Place}
use Rattle.doc_api.specs.declared.reply.Reply.{Reply}
use Rattle.doc_api.specs.declared.reply.Reply.TheVariants.{Refused}
use Rattle.doc_api.specs.declared.role.Role.{Role}
use Rattle.crdt_rules.specs.Facts.{Facts, facts}
use Rattle.crdt_rules.specs.Log.{IsGood, replay}
use Rattle.doc_rules.specs.Answers.{LooksHere, Reads}
use Rattle.doc_rules.specs.Replica.{Replica, replica_facts}
use Rattle.doc_rules.specs.Resolve.{Resolves}
pub use Rattle.doc_rules.specs.Role.{AreOf}
use Rattle.doc_rules.specs.Role.{value_put_at, value_in, values_in, roles_of}
use Rattle.doc_rules.proofs.Roles.{roles_give_values}
use Rattle.doc_rules.proofs.SameValues.{looks_same}

pub looks_agree : (log : List Op) (f : Facts) (roles : List Tagged → Key → Id → Option Role) → IsGood log → AreOf log f roles → (l : Look) (c : Cursor) (answer : Reply)
    → LooksHere f (values_in f roles) l c answer → LooksHere (facts (replay log)) (value_put_at log) l c answer
looks_agree log f roles good are l c answer = subst IsGiven (sym are.facts_are) told are.roles_are
  where
    IsGiven : Facts → Type 0
    IsGiven g =
        ((p : List Tagged) (k : Key) (i : Id) → roles p k i ≡ roles_of g log p k i) → LooksHere g (values_in g roles) l c answer → LooksHere (facts (replay log)) (value_put_at log) l c answer

    told : IsGiven (facts (replay log))
    told same =
        looks_same (facts (replay log)) (values_in (facts (replay log)) roles) (value_put_at log)
        (λ p k i here. ap (option_and_then (λ r. value_in r ((facts (replay log)).register p k i))) (same p k i) ∙ roles_give_values log good p k i here) l c answer

-- so a look where the steps lead is the replica's answer
pub look_answers : (r : Replica) (mine : Counts) (f : Facts) (roles : List Tagged → Key → Id → Option Role) → IsGood r.log → AreOf r.log f roles → (l : Look) (place : Place)
    (c : Result Cursor Refusal) (answer : Reply) → Resolves f place.start place.steps c
    → MatchResult c (λ c. LooksHere f (values_in f roles) l c answer) (λ e. answer ≡ Refused e) → Reads r mine (query.Look l place) answer
look_answers r mine f roles good are l place c answer leads h =
    (c, subst (λ g. Resolves g place.start place.steps c) are.facts_are leads, by c h)
  where
    by : (c : Result Cursor Refusal) → MatchResult c (λ c. LooksHere f (values_in f roles) l c answer) (λ e. answer ≡ Refused e)
        → MatchResult c (λ c. LooksHere (replica_facts r) (value_put_at r.log) l c answer) (λ e. answer ≡ Refused e)
    by (Ok c) h = looks_agree r.log f roles good are l c answer h
    by (Err e) h = h
