-- Replies as JSON, as text and as lines.
use Rattle.std.specs.Prelude.{ℕ, List, [], ◌∷◌, ◌++◌, map, codes}
use Rattle.std.specs.Fmt.{signed_decimal}
use Rattle.serde_json.specs.Data.{Data, null, boolean, number, unsigned, string}
use Rattle.serde_json.specs.Written.{compact_text}
use Rattle.doc_api.specs.Words.{Id, Scalar, Refusal}
use Rattle.json_scalar.specs.Refusal.{number_of, name_of}
use Rattle.json_scalar.specs.Scalar.{scalar_data}
use Rattle.json_scalar.specs.declared.refusal.Refusal.TheVariants as refusal
use Rattle.op_core.specs.Wire.{list_data, id_data, front_data, cursor_data}
use Rattle.doc_api.specs.declared.reply.Reply.{Reply}
use Rattle.doc_api.specs.declared.reply.Reply.TheVariants.{Applied, Known, Held, Forgotten}
use Rattle.doc_api.specs.declared.reply.Reply.TheVariants.{Resolved, Index, Keys, Values}
use Rattle.doc_api.specs.declared.reply.Reply.TheVariants.{Items, Conflicts, Show, Sum, Operations}
use Rattle.doc_api.specs.declared.reply.Reply.TheVariants.{Chains}
use Rattle.doc_api.specs.declared.reply.Reply.TheVariants.{Front, Waiting}
use Rattle.doc_api.specs.declared.reply.Reply.TheVariants.{Account, Size, Copied, Refused}
use Rattle.line_feed.specs.Cut.{line_of}
use Rattle.line_proto.specs.declared.line_reply.LineReply.{LineReply}
use Rattle.line_proto.specs.declared.line_reply.LineReply.TheVariants.{Opened, Bound, Version, Bye}
use Rattle.line_proto.specs.declared.line_reply.LineReply.TheVariants.{Answered}

abbrev pub count_data : ℕ → Data
count_data n = number (unsigned n)

-- an array that begins with a word
abbrev pub worded : List ℕ → List Data → Data
worded word ds = list_data (string word ∷ ds)

abbrev pub ids_data : List Id → Data
ids_data ids = list_data (map id_data ids)

abbrev pub scalars_data : List Scalar → Data
scalars_data scalars = list_data (map scalar_data scalars)

abbrev pub waiting_data : Id × List Id → Data
waiting_data e = list_data (id_data e.0 ∷ ids_data e.1 ∷ [])

-- the number and the name; for a fork of a replica its last counter too
abbrev pub refusal_items : Refusal → List Data
refusal_items (refusal.Forked last) = count_data 14 ∷ string (codes "forked") ∷ count_data last ∷ []
refusal_items r = count_data (number_of r) ∷ string (name_of r) ∷ []

-- A document's reply. One whose value is kept as text has no JSON here: see `reply_text`.
abbrev pub reply_data : Reply → Data
reply_data (Applied count dropped id) =
    worded (codes "applied") (count_data count ∷ count_data dropped ∷ id_data id ∷ [])
reply_data Known = worded (codes "known") []
reply_data (Held missing) = worded (codes "held") (ids_data missing ∷ [])
reply_data Forgotten = worded (codes "forgotten") []
reply_data (Resolved cursor) = worded (codes "cursor") (cursor_data cursor ∷ [])
reply_data (Index n) = worded (codes "index") (count_data n ∷ [])
reply_data (Keys text) = null
reply_data (Values scalars) = worded (codes "values") (scalars_data scalars ∷ [])
reply_data (Items text) = null
reply_data (Conflicts text) = null
reply_data (Show text) = null
reply_data (Sum total) = worded (codes "sum") (string (signed_decimal total) ∷ [])
reply_data (Operations text) = null
reply_data (Chains text) = null
reply_data (Front front) = worded (codes "front") (front_data front ∷ [])
reply_data (Waiting held) = worded (codes "waiting") (list_data (map waiting_data held) ∷ [])
reply_data (Account n) = worded (codes "account") (count_data n ∷ [])
reply_data (Size logged copied replicas) =
    worded (codes "size") (count_data logged ∷ count_data copied ∷ count_data replicas ∷ [])
reply_data (Copied is) = worded (codes "copied") (boolean is ∷ [])
reply_data (Refused r) = worded (codes "no") (refusal_items r)

abbrev pub line_reply_data : LineReply → Data
line_reply_data (Opened seat) = worded (codes "opened") (count_data seat ∷ [])
line_reply_data Bound = worded (codes "bound") []
line_reply_data Version = worded (codes "version") (count_data 2 ∷ [])
line_reply_data Bye = worded (codes "bye") []
line_reply_data (Answered reply) = reply_data reply

-- the text of an array of a word and a value, of the bytes before the value's text and of that text
abbrev pub around : List ℕ → List ℕ → List ℕ
around prefix text = prefix ++ (text ++ 93 ∷ [])

abbrev pub reply_text : Reply → List ℕ
reply_text (Keys text) = around (codes "[\"keys\",") text
reply_text (Items text) = around (codes "[\"items\",") text
reply_text (Conflicts text) = around (codes "[\"conflicts\",") text
reply_text (Show text) = around (codes "[\"show\",") text
reply_text (Operations text) = around (codes "[\"ops\",") text
reply_text (Chains text) = around (codes "[\"chains\",") text
reply_text reply = compact_text (reply_data reply)

-- the compact text of a reply
abbrev pub line_reply_text : LineReply → List ℕ
line_reply_text (Answered reply) = reply_text reply
line_reply_text reply = compact_text (line_reply_data reply)

-- the line of JSON: its compact text, and a newline
abbrev pub line_text : Data → List ℕ
line_text d = line_of (compact_text d)

-- a reply's line
abbrev pub reply_line : LineReply → List ℕ
reply_line reply = line_of (line_reply_text reply)
