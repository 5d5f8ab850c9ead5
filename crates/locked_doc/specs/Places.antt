-- What is read at a place of a document: it follows from the facts that the logged operations make,
-- and from the values that they put.
use Rattle.std.specs.Prelude.{◌≡◌, ◌⊎◌, List, Result, MatchResult}
use Rattle.doc_api.specs.Words.{Refusal, NoMemory, Cursor, Op}
use Rattle.doc_api.specs.declared.ask.Query.{Query}
use Rattle.doc_api.specs.declared.ask.Query.TheVariants as query
use Rattle.doc_api.specs.declared.place.Place.{Place}
use Rattle.doc_api.specs.declared.reply.Reply.{Reply}
use Rattle.doc_api.specs.declared.reply.Reply.TheVariants.{Refused, Resolved}
use Rattle.crdt_rules.specs.Facts.{Facts, facts}
use Rattle.crdt_rules.specs.Free.{AreFactsOf}
use Rattle.crdt_rules.specs.Log.{IsCausalOrder, replay}
use Rattle.doc_rules.specs.Answers.{IndexHere, LooksHere}
use Rattle.doc_rules.specs.Views.{Values}
use Rattle.doc_rules.specs.Resolve.{Resolves}
use Rattle.doc_rules.specs.Role.{value_put_at}

-- a reading where the steps lead in these facts, the cause against the steps, or out of memory
abbrev pub IsReadWhere : Facts → Place → (Cursor → Reply → Type 0) → Reply → Type 0
IsReadWhere f place reads answer =
    ((c : Result Cursor Refusal) × Resolves f place.start place.steps c
    × MatchResult c (λ c. reads c answer) (λ e. answer ≡ Refused e))
    ⊎ (answer ≡ Refused NoMemory)

-- what is asked of a place is read of these facts and values; of a query for
-- the log itself this says nothing
abbrev pub IsReadOf : Facts → Values → Query → Reply → Type 0
IsReadOf f values (query.Resolve place) answer = IsReadWhere f place (λ c a. a ≡ Resolved c) answer
IsReadOf f values (query.Index place) answer = IsReadWhere f place (IndexHere f) answer
IsReadOf f values (query.Look look place) answer = IsReadWhere f place (LooksHere f values look) answer
IsReadOf f values _ answer = Unit {0}

-- whatever the causal order in which the operations are taken
abbrev pub IsReadInEachOrder : List Op → Query → Reply → Type 0
IsReadInEachOrder log query answer =
    (order : List Op) → IsCausalOrder log order
    → IsReadOf (facts (replay order)) (value_put_at order) query answer

-- read from the facts of the set of the operations, with no order at all
abbrev pub IsReadOfSet : List Op → Query → Reply → Type 0
IsReadOfSet log query answer = (f : Facts) → AreFactsOf log f
    → IsReadOf f (value_put_at log) query answer
