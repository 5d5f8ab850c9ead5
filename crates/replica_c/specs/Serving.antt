-- What an open replica does at a line, and what it reports then.
use Rattle.std.specs.Prelude.{◌≡◌, ◌⊎◌, ℕ, Bool, true, false, List, [], ◌∷◌, ◌++◌, Option, Some}
use Rattle.std.specs.Prelude.{None, Result, Ok, Err, flat_map}
use Rattle.serde_json.specs.Written.{compact_text}
use Rattle.op_core.specs.Op.{Op}
use Rattle.op_core.specs.Wire.{wire}
use Rattle.doc_api.specs.Words.{Id, Refusal, NoMemory}
use Rattle.doc_api.specs.declared.ask.Command.{Command}
use Rattle.doc_api.specs.declared.ask.Command.TheVariants.{Change, Deliver, Forget}
use Rattle.doc_api.specs.declared.reply.Reply.{Reply}
use Rattle.doc_api.specs.declared.reply.Reply.TheVariants.{Applied}
use Rattle.doc_api.specs.declared.ask.Counts.{Counts}
use Rattle.doc_rules.specs.Answers.{MayAnswer}
use Rattle.doc_rules.specs.Events.{Event}
use Rattle.doc_rules.specs.Replica.{Replica, find_id}
use Rattle.line_feed.specs.Cut.{line_of}
use Rattle.line_proto.specs.Replies.{reply_line}
use Rattle.line_proto.specs.declared.line_reply.LineReply.TheVariants.{Answered}
use Rattle.replica_c.specs.Asking.{ask_of}
use Rattle.replica_c.specs.Runs.{DoesRun, MakesNone}
use Rattle.replica_c.specs.declared.ask.Ask.{Ask}
use Rattle.replica_c.specs.declared.ask.Ask.TheVariants.{Act, Run, Read}

-- ---- one event, or those of a run

-- no seat asks, and there is no stored log
abbrev pub no_counts : Counts
no_counts = record { mine = 0; copied = 0 }

-- the id of the operation that a change of one's own was logged with, if it was
abbrev pub applied_ids : Reply → List Id
applied_ids (Applied count dropped id) = id ∷ []
applied_ids _ = []

-- this id, if there is one
abbrev pub listed_id : Option Id → List Id
listed_id None = []
listed_id (Some id) = id ∷ []

abbrev pub own_ids : Command → Reply → List Id
own_ids (Change place m) reply = applied_ids reply
own_ids (Deliver op) reply = []
own_ids (Forget i) reply = []

-- A command is one event of the rules, and a run is one for each change; a query changes nothing;
-- what can't be read is refused. The ids are those of the new operations of one's own.
abbrev pub DoesAsk : Replica → Result Ask Refusal → Reply → List Id → Replica → Type 0
DoesAsk r (Ok (Act command)) reply ids s = Event r command reply s × (ids ≡ own_ids command reply)
DoesAsk r (Ok (Run run)) reply ids s = DoesRun r run reply ids s
DoesAsk r (Ok (Read query)) reply ids s = MayAnswer r no_counts query reply × (s ≡ r) × (ids ≡ [])
DoesAsk r (Err cause) reply ids s = MakesNone r cause reply ids s

-- what a line does, and the answer; or out of memory, with nothing changed
abbrev pub AnswersAsk : Replica → List ℕ → Reply → List Id → Replica → Type 0
AnswersAsk r line reply ids s = DoesAsk r (ask_of line) reply ids s ⊎ MakesNone r NoMemory reply ids s

-- ---- what is reported of it

-- an operation's line
abbrev pub op_line : Option Op → List ℕ
op_line None = []
op_line (Some op) = line_of (compact_text (wire op))

-- the line of each operation that is logged under these ids, in order
abbrev pub op_lines : List Op → List Id → List ℕ
op_lines log ids = flat_map (λ id. op_line (find_id log id)) ids

-- the answer's line, as a server writes it, and behind it those of the new operations
abbrev pub told_text : Reply → List Id → List Op → List ℕ
told_text reply ids log = reply_line (Answered reply) ++ op_lines log ids

-- the text, where it was reported
abbrev pub IsTold : Bool → List ℕ → List ℕ → Type 0
IsTold true due text = text ≡ due
IsTold false due text = Unit {0}

-- a line is answered: its events, and their text
abbrev pub TellsLine : Replica → List ℕ → Bool → Replica → List ℕ → Type 0
TellsLine r line told s text =
    (reply : Reply) × (ids : List Id) × AnswersAsk r line reply ids s
    × IsTold told (told_text reply ids s.log) text
