-- What a replica answers where it is only read.
use Rattle.std.specs.Prelude.{◌≡◌, ◌⊎◌, ℕ, List, length, map, filter, take, not, Result, Ok, Err}
use Rattle.std.specs.Prelude.{MatchResult}
use Rattle.doc_api.specs.Words.{Refusal, NoMemory, Cursor, Key, Tagged, Op}
use Rattle.version_vector.specs.Front.{covers}
use Rattle.doc_api.specs.declared.ask.Counts.{Counts}
use Rattle.doc_api.specs.declared.ask.Look.{Look}
use Rattle.doc_api.specs.declared.ask.Look.TheVariants as look
use Rattle.doc_api.specs.declared.ask.Query.{Query}
use Rattle.doc_api.specs.declared.ask.Query.TheVariants as query
use Rattle.doc_api.specs.declared.ask.State.{State}
use Rattle.doc_api.specs.declared.ask.State.TheVariants as state
use Rattle.doc_api.specs.declared.place.Place.{Place}
use Rattle.doc_api.specs.declared.reply.Reply.{Reply}
use Rattle.doc_api.specs.declared.reply.Reply.TheVariants as reply
use Rattle.crdt_rules.specs.Dependencies.{is_logged, missing}
use Rattle.crdt_rules.specs.Facts.{Facts}
use Rattle.crdt_rules.specs.Fits.{replicas}
use Rattle.crdt_rules.specs.Pull.{front_of}
use Rattle.doc_rules.specs.Index.{IsIndexAt}
use Rattle.doc_rules.specs.Views.{Values, AreValues, IsSum, ReadsPlace}
use Rattle.doc_rules.specs.Replica.{Replica, replica_facts}
use Rattle.doc_rules.specs.Resolve.{Resolves}
use Rattle.doc_rules.specs.Role.{value_put_at}
use Rattle.doc_rules.specs.Shown.{ShowsText}
use Rattle.doc_rules.specs.Encoded.{KeysText, ItemsText, ConflictsText, operations_text}
use Rattle.doc_rules.specs.Chains.{chains_text}

-- the reply to a reading, or the cause against it
abbrev pub reply_with : {X : Type 0} → (X → Reply) → Result X Refusal → Reply
reply_with reply_of (Ok x) = reply_of x
reply_with reply_of (Err cause) = reply.Refused cause

-- a reading of this kind at a cursor, with that reply
abbrev pub ReadsHere : {X : Type 0} → (List Tagged → Key → X → Type 0) → (X → Reply) → Cursor
    → Reply → Type 0
ReadsHere {X} reads reply_of c answer =
    (result : Result X Refusal) × ReadsPlace reads c result × (answer ≡ reply_with reply_of result)

-- the reply to a look at a cursor
abbrev pub LooksHere : Facts → Values → Look → Cursor → Reply → Type 0
LooksHere f values look.Keys = ReadsHere (KeysText f) reply.Keys
LooksHere f values look.Values = ReadsHere (AreValues f) reply.Values
LooksHere f values look.Items = ReadsHere (ItemsText f) reply.Items
LooksHere f values look.Conflicts = ReadsHere (ConflictsText f values) reply.Conflicts
LooksHere f values look.Show = ReadsHere (ShowsText f values) reply.Show
LooksHere f values look.Sum = ReadsHere (IsSum f) reply.Sum

-- the reply to how many present elements come up to the one at a cursor
abbrev pub IndexHere : Facts → Cursor → Reply → Type 0
IndexHere f c answer =
    (n : Result ℕ Refusal) × IsIndexAt f c.path c.key n × (answer ≡ reply_with reply.Index n)

-- a reading at the place where the steps lead, or the cause against them
abbrev pub ReadsAt : Replica → Place → (Cursor → Reply → Type 0) → Reply → Type 0
ReadsAt r place reads answer =
    (c : Result Cursor Refusal) × Resolves (replica_facts r) place.start place.steps c
    × MatchResult c (λ c. reads c answer) (λ e. answer ≡ reply.Refused e)

-- the operations that a front does not cover, in log order
abbrev pub since : List (List ℕ × ℕ) → List Op → List Op
since front log = filter (λ o. not (covers front o.id)) log

-- The reply to a reading of the whole, by counts that the replica doesn't know: how many of the
-- logged operations are the asking seat's, and how many the stored log has.
abbrev pub state_reply : Replica → Counts → State → Reply
state_reply r counts state.Front = reply.Front (front_of r.log)
state_reply r counts state.Held = reply.Waiting (map (λ o. (o.id, missing o r.log)) r.held)
state_reply r counts state.Account = reply.Account counts.mine
state_reply r counts state.Size =
    reply.Size (length r.log) counts.copied (length (replicas r.log))

abbrev pub Reads : Replica → Counts → Query → Reply → Type 0
Reads r counts (query.Resolve place) answer = ReadsAt r place (λ c a. a ≡ reply.Resolved c) answer
Reads r counts (query.Index place) answer = ReadsAt r place (IndexHere (replica_facts r)) answer
Reads r counts (query.Look look place) answer =
    ReadsAt r place (LooksHere (replica_facts r) (value_put_at r.log) look) answer
Reads r counts (query.Operations front limit) answer =
    answer ≡ reply.Operations (operations_text (take limit (since front r.log)))
Reads r counts (query.Chains after front) answer = answer ≡ reply.Chains (chains_text after front r.log)
Reads r counts (query.IsCopied i) answer =
    answer ≡ reply.Copied (is_logged (take counts.copied r.log) i)
Reads r counts (query.State s) answer = answer ≡ state_reply r counts s

-- answered by counts, without memory
abbrev pub GoesByCounts : Query → Type 0
GoesByCounts (query.IsCopied i) = Unit {0}
GoesByCounts (query.State state.Account) = Unit {0}
GoesByCounts (query.State state.Size) = Unit {0}
GoesByCounts _ = ⊥

-- what may be answered
abbrev pub MayAnswer : Replica → Counts → Query → Reply → Type 0
MayAnswer r counts q answer = Reads r counts q answer ⊎ (answer ≡ reply.Refused NoMemory)

-- the operations alone answer it, whatever their order: where steps lead, an
-- index, a look at a place, and the front
abbrev pub IsOfOperations : Query → Type 0
IsOfOperations (query.Resolve place) = Unit {0}
IsOfOperations (query.Index place) = Unit {0}
IsOfOperations (query.Look look place) = Unit {0}
IsOfOperations (query.State state.Front) = Unit {0}
IsOfOperations _ = ⊥
