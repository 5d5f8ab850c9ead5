-- The replies made of a replica's answers.
use Rattle.std.specs.Prelude.{◌⊎◌, Bool, true, false, Result, Ok, Err, ⊤}
use Rattle.json_scalar.specs.declared.refusal.Refusal.{Refusal}
use Rattle.json_scalar.specs.declared.refusal.Refusal.TheVariants.{AtHead, NotInList}
use Rattle.doc_api.specs.declared.reply.Reply.{Reply}
use Rattle.doc_api.specs.declared.reply.Reply.TheVariants as reply
use Rattle.doc_rules.specs.Events.{Expected, Settles, IsOutOfMemory}
use Rattle.doc_rules.specs.Replica.{Replica}
use Rattle.replica_core.specs.Memory.{NeedsMemory}
use Rattle.replica_core.specs.declared.outcome.Applied.{Applied}
use Rattle.replica_core.specs.declared.outcome.Delivered.{Delivered}
use Rattle.replica_core.specs.declared.outcome.Delivered.TheVariants as delivered

abbrev pub reply_of_applied : Result Applied Refusal → Reply
reply_of_applied (Ok a) = reply.Applied a.count a.dropped a.id
reply_of_applied (Err cause) = reply.Refused cause

abbrev pub reply_of_delivered : Result Delivered Refusal → Reply
reply_of_delivered (Ok (delivered.Applied a)) = reply.Applied a.count a.dropped a.id
reply_of_delivered (Ok delivered.Known) = reply.Known
reply_of_delivered (Ok (delivered.Held ids)) = reply.Held ids
reply_of_delivered (Err cause) = reply.Refused cause

abbrev pub reply_of_forgotten : Result ⊤ Refusal → Reply
reply_of_forgotten (Ok _) = reply.Forgotten
reply_of_forgotten (Err cause) = reply.Refused cause

-- the first cause against a change at its cursor: an insertion outside a
-- list, or anything else at a head
abbrev pub first_place_cause : Bool → Bool → Result ⊤ Refusal
first_place_cause true at_head = Err NotInList
first_place_cause false true = Err AtHead
first_place_cause false false = Ok tt

-- the expected outcome comes about, or, where something grows, memory is
-- exhausted and nothing has changed
abbrev pub Meets : Replica → Expected → Reply → Replica → Type 0
Meets r expected reply s = Settles r expected reply s
    ⊎ (NeedsMemory expected × IsOutOfMemory r reply s)
