-- How a replica fetches by requests what it lacks of another: it asks by `ops` for one page after
-- another, and delivers the operations of each.
use Rattle.std.specs.Prelude.{◌≡◌, ◌≢◌, ℕ, ◌<◌, List, [], ◌∷◌, ◌++◌, take, Contains}
use Rattle.doc_api.specs.Words.{NoMemory, Op}
use Rattle.doc_api.specs.declared.ask.Command.TheVariants.{Deliver}
use Rattle.doc_api.specs.declared.reply.Reply.{Reply}
use Rattle.doc_api.specs.declared.reply.Reply.TheVariants.{Applied, Refused}
use Rattle.crdt_rules.specs.Pull.{front_of}
use Rattle.doc_rules.specs.Answers.{since}
use Rattle.doc_rules.specs.Events.{Event}
use Rattle.doc_rules.specs.Replica.{Replica}
use Rattle.converge_laws.specs.Replayed.{MayPull}

-- the operations of a reply to `ops`: the first of a log that this replica's front doesn't cover
abbrev pub page : Replica → ℕ → List Op → List Op
page r limit log = take limit (since (front_of r.log) log)

-- the reply to an operation that is logged alone: none is released or dropped with it
abbrev pub applied : Op → Reply
applied op = Applied 1 0 op.id

-- Delivers r ops replies s: r is delivered the operations in turn, one again after out of memory,
-- and becomes s
pub data Delivers : Replica → List Op → List Reply → Replica → Type 0 where
  ends : {r : Replica} → Delivers r [] [] r
  again : {r s t : Replica} {op : Op} {ops : List Op} {replies : List Reply}
      → Event r (Deliver op) (Refused NoMemory) s → Delivers s (op ∷ ops) replies t
      → Delivers r (op ∷ ops) replies t
  next : {r s t : Replica} {op : Op} {ops : List Op} {reply : Reply} {replies : List Reply}
      → Event r (Deliver op) reply s → reply ≢ Refused NoMemory → Delivers s ops replies t
      → Delivers r (op ∷ ops) (reply ∷ replies) t

-- Fetches other r replies s: r asks for pages of any size, each with the front that it has by then.
-- It delivers each before it asks for the next, and becomes s. The other may log meanwhile: `other`
-- is what it is at last, and when it was asked it had the first `so_far` of those operations.
pub data Fetches (other : Replica) : Replica → List Reply → Replica → Type 0 where
  stops : {r : Replica} → Fetches other r [] r
  asks : {r s t : Replica} {replies more : List Reply} (limit so_far : ℕ)
      → Delivers r (page r limit (take so_far other.log)) replies s → Fetches other s more t
      → Fetches other r (replies ++ more) t

-- it fetches until a further page is empty
pub record FetchesAll (other r s : Replica) : Type 0 where
  pub replies : List Reply
  pub fetches : Fetches other r replies s
  pub limit : ℕ
  pub some : 0 < limit
  pub no_more : page s limit other.log ≡ []

-- the logs may pull from each other, the replica holds no operation, and it lacks none that the
-- other has under the replica's own name
pub record MayFetch (r other : Replica) : Type 0 where
  pub pull : MayPull r.log other.log
  pub none_held : r.held ≡ []
  pub own : (op : Op) → Contains other.log op → op.id.replica ≡ r.name → Contains r.log op
