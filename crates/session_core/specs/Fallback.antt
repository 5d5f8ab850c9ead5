-- What is written for a reply, for whose line there may be no memory.
use Rattle.std.specs.Prelude.{◌≡◌, ◌⊎◌, true}
use Rattle.json_scalar.specs.declared.refusal.Refusal.TheVariants.{NoMemory}
use Rattle.line_proto.specs.Writing.{line_needs_heap}
use Rattle.line_proto.specs.declared.line_reply.LineReply.{LineReply}
use Rattle.session_rules.specs.Session.{refused}

-- the reply, or `no-memory` in its place if its line is built on the heap
abbrev pub MayWrite : LineReply → LineReply → Type 0
MayWrite response out = (out ≡ response)
    ⊎ ((line_needs_heap response ≡ true) × (out ≡ refused NoMemory))
