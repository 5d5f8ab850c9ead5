-- Where a replica may be out of memory.
use Rattle.std.specs.Prelude.{◌≡◌, Bool, not, ◌&&◌, bytes_eq, is_ok}
use Rattle.doc_api.specs.declared.ask.Command.{Command}
use Rattle.doc_api.specs.declared.ask.Command.TheVariants.{Change, Deliver, Forget}
use Rattle.doc_api.specs.declared.reply.Reply.TheVariants.{Held}
use Rattle.doc_api.specs.Words.{Op}
use Rattle.crdt_rules.specs.Dependencies.{is_logged, is_ready}
use Rattle.doc_rules.specs.Cause.{cause_of}
use Rattle.doc_rules.specs.Events.{Expected, replied, held, logged, expected_of_delivery}
use Rattle.doc_rules.specs.Replica.{Replica}

-- something grows: an operation is logged or held, or a list of ids is made for the answer
abbrev pub NeedsMemory : Expected → Type 0
NeedsMemory (replied (Held ids)) = Unit {0}
NeedsMemory (replied _) = ⊥
NeedsMemory (held op) = Unit {0}
NeedsMemory (logged op) = Unit {0}

-- A command may be out of memory only where something grows. The way to a place is made
-- before its change is looked at.
abbrev pub MayLack : Replica → Command → Type 0
MayLack r (Change place m) = Unit {0}
MayLack r (Deliver op) = NeedsMemory (expected_of_delivery r op)
MayLack r (Forget i) = ⊥

-- A command may log something.
abbrev pub MayLog : Replica → Command → Type 0
MayLog r (Change place m) = Unit {0}
MayLog r (Deliver op) = expected_of_delivery r op ≡ logged op
MayLog r (Forget i) = ⊥

-- So a delivery is logged: its id is neither logged nor held, another replica made it, it is ready,
-- and nothing is against it.
abbrev pub is_to_log : Replica → Op → Bool
is_to_log r op =
    not (is_logged r.log op.id) && not (is_logged r.held op.id) && not (bytes_eq op.id.replica r.name)
    && is_ready op r.log && is_ok (cause_of op r.log)
