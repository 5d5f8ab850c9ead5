-- What the arguments of a command line ask for.
use Rattle.std.specs.Prelude.{◌≡◌, ◌≤◌, ℕ, Bool, true, false, List, [], ◌∷◌, codes, map, Option, Some, None}
use Rattle.std.specs.Prelude.{◌||◌, option_map, unwrap_or}
use Rattle.std.specs.Str.{bytes_eq}
use Rattle.std.specs.Str.Parse.{IsNumeral, digits_value, without_leading_plus}
use Rattle.clap.specs.Words.{App, Row, Rule, Text, all_of, fault_of, first_of, found_of, matches_of}
use Rattle.clap.specs.Words.{new_app, new_rule, rows_of, with_rule}
use Rattle.clap.specs.declared.parser.matches.ArgMatches.{ArgMatches}
use Rattle.clap.specs.declared.builder.ArgAction.TheVariants.{Append, SetTrue}
use Rattle.run_core.specs.Names.{Wanted, is_good, wanted_by}
use Rattle.server_core.specs.declared.progress.Pace.{Pace}
use Rattle.server_core.specs.declared.progress.Pace.TheVariants.{Behind, Durable}
use Rattle.command_line.specs.Limits.{most_backlog, most_seconds, most_sessions}
use Rattle.command_line.specs.declared.args.RunArgs.{RunArgs}
use Rattle.command_line.specs.declared.args.ServeArgs.{ServeArgs}
use Rattle.command_line.specs.declared.args.Terms.{Terms}

-- an option that may be left out
abbrev pub option_rule : Text → Rule
option_rule name = record (new_rule name) { long = Some name }

-- an option without a value
abbrev pub flag_rule : Text → Rule
flag_rule name = record (new_rule name) { long = Some name; action = Some SetTrue }

abbrev pub document_rule : Rule
document_rule = record (new_rule (codes "doc")) { required = true; action = Some Append }

-- a required option
abbrev pub required_rule : Text → Rule
required_rule name = record (new_rule name) { long = Some name; required = true }

-- run [--name NAME] DOC..
abbrev pub run_command : App
run_command = with_rule (with_rule (new_app (codes "run")) (option_rule (codes "name"))) document_rule

abbrev pub is_run : List Text → Bool
is_run [] = false
is_run (arg ∷ args) = bytes_eq arg (codes "run")

-- the text is a number of sessions: decimal digits, before which a plus may stand, for 1 to 256
pub record IsCount (text : Text) (sessions : ℕ) : Type 0 where
  pub digits : IsNumeral 10 (without_leading_plus text)
  pub value : sessions ≡ digits_value 10 (without_leading_plus text)
  pub some : 1 ≤ sessions
  pub few : sessions ≤ most_sessions

-- the text is a number of operations: decimal digits, before which a
-- plus may stand, for 1 to 100,000
pub record IsBacklog (text : Text) (backlog : ℕ) : Type 0 where
  pub digits : IsNumeral 10 (without_leading_plus text)
  pub value : backlog ≡ digits_value 10 (without_leading_plus text)
  pub some : 1 ≤ backlog
  pub few : backlog ≤ most_backlog

-- the text is a number of seconds: decimal digits, before which a plus may stand, for 1 to 3,600
pub record IsSeconds (text : Text) (seconds : ℕ) : Type 0 where
  pub digits : IsNumeral 10 (without_leading_plus text)
  pub value : seconds ≡ digits_value 10 (without_leading_plus text)
  pub some : 1 ≤ seconds
  pub few : seconds ≤ most_seconds

-- the text that stands for a flag that was given
abbrev pub is_given : Text → Bool
is_given text = bytes_eq text (codes "true")

-- a reply to a change goes out once the file has it, or once the file is behind by so many
abbrev pub pace_of : Bool → ℕ → Pace
pace_of true backlog = Durable
pace_of false backlog = Behind backlog

-- the text of an argument in clap's matches, none if it was not given
abbrev pub argument_of : Text → List Row → Text
argument_of id rows = unwrap_or (first_of id rows) []

-- the name and the documents of clap's matches
abbrev pub wanted_of : List Row → Wanted
wanted_of rows =
    record {
      name = unwrap_or (first_of (codes "name") rows) (codes "srv");
      documents = unwrap_or (all_of (codes "doc") rows) [];
    }

-- the name and the documents of matches that clap made
abbrev pub asked_of : ArgMatches → Wanted
asked_of matches = wanted_of (rows_of (found_of matches))

-- the arguments are a `run` that clap takes, with good names
pub record AsksToRun (args : List Text) (wanted : Wanted) : Type 0 where
  pub run : is_run args ≡ true
  pub taken : fault_of run_command args ≡ []
  pub named : wanted ≡ wanted_of (matches_of run_command args)
  pub good : is_good wanted.name wanted.documents ≡ true

-- what the parsed arguments of a `run` say
abbrev pub run_of : RunArgs → Wanted
run_of args = record { name = args.name.now; documents = map (λ s. s.now) args.documents.items }

-- what a server is to be: its name, those of its documents, the address to listen at, on which
-- terms it has sessions, when replies to changes go out, and where monitors may ask, if anywhere
pub record WantedServer : Type 0 where
  pub name : Text
  pub documents : List Text
  pub address : Text
  pub terms : Terms
  pub pace : Pace
  pub health : Option Text

-- serve --addr A (--sessions N | --clients N) --file F [--name NAME] [--backlog M] [--durable]
-- [--patience S] [--until-input-ends] [--drain S] [--health A] DOC..
abbrev pub serve_command : App
serve_command =
    with_rule (with_rule (with_rule (with_rule (with_rule (with_rule (with_rule (with_rule (with_rule (with_rule (with_rule (with_rule (new_app (codes "serve"))
    (required_rule (codes "addr"))) (required_rule (codes "file"))) (option_rule (codes "sessions"))) (option_rule (codes "clients")))
    (option_rule (codes "name"))) (option_rule (codes "backlog"))) (flag_rule (codes "durable"))) (option_rule (codes "patience")))
    (flag_rule (codes "until-input-ends"))) (option_rule (codes "drain"))) (option_rule (codes "health"))) document_rule

abbrev pub is_serve : List Text → Bool
is_serve [] = false
is_serve (arg ∷ args) = bytes_eq arg (codes "serve")

-- clap's matches say that replies to changes go out at this pace
pub record SaysPace (rows : List Row) (pace : Pace) : Type 0 where
  pub most : ℕ
  pub behind : IsBacklog (unwrap_or (first_of (codes "backlog") rows) (codes "4096")) most
  pub paced : pace ≡ pace_of (is_given (argument_of (codes "durable") rows)) most

-- Of the texts of --sessions and --clients one is given: it says how many sessions there are at
-- once, and the second that others follow them.
abbrev pub SaysCount : Option Text → Option Text → ℕ → Bool → Type 0
SaysCount (Some text) None sessions stays = IsCount text sessions × (stays ≡ false)
SaysCount None (Some text) sessions stays = IsCount text sessions × (stays ≡ true)
SaysCount None None sessions stays = ⊥
SaysCount (Some text) (Some other) sessions stays = ⊥

-- clap's matches say that a server has sessions on these terms
pub record SaysTerms (rows : List Row) (terms : Terms) : Type 0 where
  pub counted : SaysCount (first_of (codes "sessions") rows) (first_of (codes "clients") rows) terms.sessions terms.stays
  pub patient : IsSeconds (unwrap_or (first_of (codes "patience") rows) (codes "30")) terms.patience
  pub drained : IsSeconds (unwrap_or (first_of (codes "drain") rows) (codes "10")) terms.drain
  pub until : terms.until_input_ends ≡ is_given (argument_of (codes "until-input-ends") rows)

-- clap's matches name this server, with good names, good terms and a number of operations
pub record NamesServer (rows : List Row) (wanted : WantedServer) : Type 0 where
  pub named : wanted_by wanted.name wanted.documents ≡ wanted_of rows
  pub at : wanted.address ≡ argument_of (codes "addr") rows
  pub terms : SaysTerms rows wanted.terms
  pub paced : SaysPace rows wanted.pace
  pub watched : wanted.health ≡ first_of (codes "health") rows
  pub good : is_good wanted.name wanted.documents ≡ true

-- the arguments are a `serve` that clap takes, and name this server
pub record AsksToServe (args : List Text) (wanted : WantedServer) : Type 0 where
  pub serve : is_serve args ≡ true
  pub taken : fault_of serve_command args ≡ []
  pub named : NamesServer (matches_of serve_command args) wanted

-- what the parsed arguments of a `serve` say
abbrev pub server_of : ServeArgs → WantedServer
server_of args =
    record {
      name = args.name.now;
      documents = map (λ s. s.now) args.documents.items;
      address = args.address.now;
      terms = args.terms;
      pace = args.pace;
      health = option_map (λ s. s.now) args.health;
    }

-- check --file F
abbrev pub check_command : App
check_command = with_rule (new_app (codes "check")) (required_rule (codes "file"))

abbrev pub is_check : List Text → Bool
is_check [] = false
is_check (arg ∷ args) = bytes_eq arg (codes "check")

abbrev pub is_version : List Text → Bool
is_version [] = false
is_version (arg ∷ args) = bytes_eq arg (codes "version") || (bytes_eq arg (codes "--version") || bytes_eq arg (codes "-V"))

-- the arguments are a `check` that clap takes
pub record AsksToCheck (args : List Text) : Type 0 where
  pub check : is_check args ≡ true
  pub taken : fault_of check_command args ≡ []
