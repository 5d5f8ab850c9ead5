-- What a line asks of a replica: the command or the query that has this JSON, or the first cause
-- against it. The forms are those of a session's requests without the document's name.
use Rattle.std.specs.Prelude.{ℕ, nat_le, List, [], ◌∷◌, codes, Option, Some, None, option_map}
use Rattle.std.specs.Prelude.{Result, Ok, Err, ok_or, if◌then◌else◌}
use Rattle.std.specs.Str.{bytes_eq}
use Rattle.serde_json.specs.Data.{Data, Items, no_items, item}
use Rattle.serde_json.specs.Find.{as_str, as_array}
use Rattle.json_scalar.specs.Refusal.{and_then}
use Rattle.json_scalar.specs.Scalar.{val_of}
use Rattle.json_scalar.specs.declared.refusal.Refusal.TheVariants.{NotJson, BadRequest}
use Rattle.op_core.specs.Op.{Op}
use Rattle.op_core.specs.Reading.{◌>>=◌, some_if, u64_of, id_from, op_from}
use Rattle.doc_api.specs.Words.{Refusal, Val, Delete}
use Rattle.doc_api.specs.declared.ask.Command.TheVariants.{Change, Deliver, Forget}
use Rattle.doc_api.specs.declared.ask.Query.TheVariants as query
use Rattle.doc_api.specs.declared.ask.State.TheVariants.{Front, Held}
use Rattle.line_proto.specs.Reading.{ascending_from, fronts_from, limit_from, line_data, look_of}
use Rattle.line_proto.specs.Reading.{mutation_of_verb}
use Rattle.replica_c.specs.Places.{place_from}
use Rattle.replica_c.specs.declared.ask.Ask.{Ask}
use Rattle.replica_c.specs.declared.ask.Ask.TheVariants.{Act, Run, Read}
use Rattle.replica_c.specs.declared.ask.Run.TheVariants.{Inserts, Deletes}

-- ---- the values of a run, and how many changes it has

abbrev pub vals_of : Items → Result (List Val) Refusal
vals_of no_items = Ok []
vals_of (item d ds) = and_then (val_of d) (λ val. and_then (vals_of ds) (λ vals. Ok (val ∷ vals)))

-- at least one
abbrev pub some_items : Items → Option Items
some_items no_items = None
some_items (item d ds) = Some (item d ds)

abbrev pub vals_from : Data → Result (List Val) Refusal
vals_from d = and_then (ok_or (as_array d >>= some_items) BadRequest) vals_of

abbrev pub some_count : ℕ → Option ℕ
some_count n = some_if (nat_le 1 n) n

abbrev pub count_from : Data → Option ℕ
count_from d = u64_of d >>= some_count

-- ---- by how many items come after the word

abbrev pub plain_ask : List ℕ → Option Ask
plain_ask verb =
    if bytes_eq verb (codes "front") then Some (Read (query.State Front))
    else some_if (bytes_eq verb (codes "held")) (Read (query.State Held))

abbrev pub ask_deletion : Data → Result Ask Refusal
ask_deletion d = and_then (ok_or (place_from d) BadRequest)
    (λ place. Ok (Act (Change place Delete)))

abbrev pub ask_delivery : Data → Result Ask Refusal
ask_delivery d = and_then (op_from d) (λ op. Ok (Act (Deliver op)))

abbrev pub ask_forgetting : Data → Result Ask Refusal
ask_forgetting d = ok_or (option_map (λ id. Act (Forget id)) (id_from d)) BadRequest

-- where a place is, as a cursor
abbrev pub ask_where : Data → Result Ask Refusal
ask_where d = and_then (ok_or (place_from d) BadRequest) (λ place. Ok (Read (query.Resolve place)))

-- how many present elements come up to the one at a place
abbrev pub ask_index : Data → Result Ask Refusal
ask_index d = and_then (ok_or (place_from d) BadRequest) (λ place. Ok (Read (query.Index place)))

abbrev pub ask_look : List ℕ → Data → Result Ask Refusal
ask_look verb d =
    and_then (ok_or (look_of verb) BadRequest) (λ look.
    and_then (ok_or (place_from d) BadRequest) (λ place. Ok (Read (query.Look look place))))

abbrev pub short_ask : List ℕ → Data → Result Ask Refusal
short_ask verb d =
    if bytes_eq verb (codes "delete") then ask_deletion d
    else (if bytes_eq verb (codes "deliver") then ask_delivery d
    else (if bytes_eq verb (codes "forget") then ask_forgetting d
    else (if bytes_eq verb (codes "cursor") then ask_where d
    else (if bytes_eq verb (codes "index") then ask_index d
    else ask_look verb d))))

abbrev pub ask_ops : Data → Data → Result Ask Refusal
ask_ops f n =
    and_then (ok_or (limit_from n) BadRequest) (λ limit.
    and_then (ascending_from f) (λ front. Ok (Read (query.Operations front limit))))

abbrev pub ask_chains : Data → Data → Result Ask Refusal
ask_chains a b = and_then (fronts_from a b) (λ fronts. Ok (Read (query.Chains fronts.0 fronts.1)))

abbrev pub ask_change : List ℕ → Data → Data → Result Ask Refusal
ask_change verb p d =
    and_then (ok_or (place_from p) BadRequest) (λ place.
    and_then (mutation_of_verb verb d) (λ change. Ok (Act (Change place change))))

abbrev pub ask_inserts : Data → Data → Result Ask Refusal
ask_inserts p d =
    and_then (ok_or (place_from p) BadRequest) (λ place.
    and_then (vals_from d) (λ vals. Ok (Run (Inserts place vals))))

abbrev pub ask_deletes : Data → Data → Result Ask Refusal
ask_deletes p n =
    and_then (ok_or (count_from n) BadRequest) (λ count.
    and_then (ok_or (place_from p) BadRequest) (λ place. Ok (Run (Deletes place count))))

abbrev pub long_ask : List ℕ → Data → Data → Result Ask Refusal
long_ask verb a b =
    if bytes_eq verb (codes "ops") then ask_ops a b
    else (if bytes_eq verb (codes "chains") then ask_chains a b
    else (if bytes_eq verb (codes "inserts") then ask_inserts a b
    else (if bytes_eq verb (codes "deletes") then ask_deletes a b
    else ask_change verb a b)))

abbrev pub ask_by : List ℕ → Items → Result Ask Refusal
ask_by verb no_items = ok_or (plain_ask verb) BadRequest
ask_by verb (item a no_items) = short_ask verb a
ask_by verb (item a (item b no_items)) = long_ask verb a b
ask_by verb (item a (item b (item c ds))) = Err BadRequest

abbrev pub ask_items : Items → Result Ask Refusal
ask_items no_items = Err BadRequest
ask_items (item verb ds) = and_then (ok_or (as_str verb) BadRequest) (λ verb. ask_by verb ds)

abbrev pub ask_from : Data → Result Ask Refusal
ask_from d = and_then (ok_or (as_array d) BadRequest) ask_items

-- ---- lines

-- what these bytes ask, or the first cause against them
abbrev pub ask_of : List ℕ → Result Ask Refusal
ask_of line = and_then (ok_or (line_data line) NotJson) ask_from

-- the operation that these bytes write, or the first cause against them
abbrev pub op_of_line : List ℕ → Result Op Refusal
op_of_line line = and_then (ok_or (line_data line) NotJson) op_from
