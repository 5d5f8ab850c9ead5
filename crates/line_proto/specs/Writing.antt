-- How replies are written, and what writing returns.
use Rattle.std.specs.Prelude.{◌≡◌, ℕ, List, ◌++◌, Option, Bool, true, false, Result, Ok, Err, ⊤}
use Rattle.std.specs.Io.KnownBytes.{Appends}
use Rattle.doc_api.specs.declared.reply.Reply.{Reply}
use Rattle.doc_api.specs.declared.reply.Reply.TheVariants.{Applied, Known, Held, Waiting, Forgotten}
use Rattle.doc_api.specs.declared.reply.Reply.TheVariants.{Account, Size, Copied, Refused, Keys, Items}
use Rattle.doc_api.specs.declared.reply.Reply.TheVariants.{Conflicts, Show, Operations, Chains, Index}
use Rattle.line_proto.specs.declared.line_reply.LineReply.{LineReply}
use Rattle.line_proto.specs.declared.line_reply.LineReply.TheVariants.{Answered}
use Rattle.line_proto.specs.declared.write.WriteFault.{WriteFault}
use Rattle.line_proto.specs.declared.write.WriteFault.TheVariants.{NoMemory, Device}

-- whether the reply's line is built on the heap before it is written,
-- so that memory may lack for it
abbrev pub needs_heap : Reply → Bool
needs_heap (Applied count dropped id) = false
needs_heap Known = false
needs_heap (Held missing) = false
needs_heap (Waiting held) = false
needs_heap Forgotten = false
needs_heap (Index n) = false
needs_heap (Account n) = false
needs_heap (Size logged copied replicas) = false
needs_heap (Copied is) = false
needs_heap (Refused r) = false
needs_heap (Keys text) = false
needs_heap (Items text) = false
needs_heap (Conflicts text) = false
needs_heap (Show text) = false
needs_heap (Operations text) = false
needs_heap (Chains text) = false
needs_heap _ = true

-- whether the reply's line is written in pieces
abbrev pub is_in_pieces : Reply → Bool
is_in_pieces (Held missing) = true
is_in_pieces (Waiting held) = true
is_in_pieces (Keys text) = true
is_in_pieces (Items text) = true
is_in_pieces (Conflicts text) = true
is_in_pieces (Show text) = true
is_in_pieces (Operations text) = true
is_in_pieces (Chains text) = true
is_in_pieces _ = false

abbrev pub line_needs_heap : LineReply → Bool
line_needs_heap (Answered reply) = needs_heap reply
line_needs_heap _ = false

-- whether the sink failed
abbrev pub is_device : Result ⊤ WriteFault → Bool
is_device (Ok _) = false
is_device (Err NoMemory) = false
is_device (Err Device) = true

-- the text comes after the piece: a prefix of both is written, and the rest is left in the piece
abbrev pub WritesText : Option (List ℕ) → Option (List ℕ) → List ℕ → List ℕ → List ℕ → Type 0
WritesText old new piece left text = (written : List ℕ) × Appends old new written
    × (piece ++ text ≡ written ++ left)
