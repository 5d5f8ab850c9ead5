-- The cursor in a reply.
use Rattle.std.specs.Prelude.{Result, Ok, Err}
use Rattle.op_core.specs.declared.cursor.Cursor.{Cursor}
use Rattle.doc_api.specs.declared.reply.Reply.{Reply}
use Rattle.doc_api.specs.declared.reply.Reply.TheVariants.{Resolved}

-- the cursor to which the steps led, or the reply as it is
abbrev pub resolved_or : Reply → Result Cursor Reply
resolved_or (Resolved cursor) = Ok cursor
resolved_or reply = Err reply
