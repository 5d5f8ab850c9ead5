-- The written forms of what is asked of a replica: those of a session's requests without the
-- document's name, where a place may start with any cursor in its written form.
use Rattle.std.specs.Prelude.{◌≡◌, ◌⊎◌, ◌&&◌, ℕ, nat_le, Bool, true, false, List, []}
use Rattle.std.specs.Prelude.{◌∷◌, map, codes, IsTrue}
use Rattle.std.specs.List.{list_all}
use Rattle.serde_json.specs.Data.{Data, number, unsigned}
use Rattle.serde_json.specs.Find.{of_integer}
use Rattle.json_scalar.specs.Scalar.{val_data}
use Rattle.op_core.specs.Shape.{is_id, is_entry, is_shaped, key_of}
use Rattle.version_vector.specs.Front.{is_ascending}
use Rattle.op_core.specs.Wire.{list_data, id_data, front_data, cursor_data, wire}
use Rattle.op_core.specs.declared.cursor.Cursor.{Cursor}
use Rattle.op_core.specs.declared.cursor.Key.{Key}
use Rattle.op_core.specs.declared.cursor.Key.TheVariants.{Element}
use Rattle.doc_api.specs.Words.{Val, Mutation, Assign, Insert, Delete, Add}
use Rattle.doc_api.specs.declared.place.Place.{Place}
use Rattle.doc_api.specs.declared.ask.Command.TheVariants.{Change, Deliver, Forget}
use Rattle.doc_api.specs.declared.ask.Query.TheVariants as query
use Rattle.doc_api.specs.declared.ask.State.TheVariants.{Front, Held}
use Rattle.line_proto.specs.Replies.{worded}
use Rattle.line_proto.specs.Written.{step_data, look_word, is_change, is_limit}
use Rattle.replica_c.specs.Places.{whole_document}
use Rattle.replica_c.specs.declared.ask.Ask.{Ask}
use Rattle.replica_c.specs.declared.ask.Ask.TheVariants.{Act, Run, Read}
use Rattle.replica_c.specs.declared.ask.Run.TheVariants.{Inserts, Deletes}

-- ---- places

-- an id in a cursor is one; a text may have any length
abbrev pub has_id : Key → Bool
has_id (Element id) = is_id id
has_id key = true

abbrev pub starts_a_place : Cursor → Bool
starts_a_place start = list_all (λ t. has_id (key_of t)) start.path && has_id start.key

-- 0 is the document itself
abbrev pub WritesStart : Data → Cursor → Type 0
WritesStart d start = ((d ≡ number (unsigned 0)) × (start ≡ whole_document))
    ⊎ ((d ≡ cursor_data start) × IsTrue (starts_a_place start))

-- a start, and then the steps from there
abbrev pub WritesPlace : Data → Place → Type 0
WritesPlace d place =
    (start : Data) × WritesStart start place.start × (d ≡ list_data (start ∷ map step_data place.steps))

-- ---- what is asked

abbrev pub change_ask_data : Data → Mutation → Data
change_ask_data place (Assign val) = worded (codes "assign") (place ∷ val_data val ∷ [])
change_ask_data place (Insert val) = worded (codes "insert") (place ∷ val_data val ∷ [])
change_ask_data place Delete = worded (codes "delete") (place ∷ [])
change_ask_data place (Add n) = worded (codes "add") (place ∷ number (of_integer n) ∷ [])

abbrev pub has_some : List Val → Bool
has_some [] = false
has_some (val ∷ vals) = true

-- this JSON asks this, which is within the limits
abbrev pub AsksFor : Data → Ask → Type 0
AsksFor d (Act (Change place change)) =
    (at : Data) × WritesPlace at place × (d ≡ change_ask_data at change) × IsTrue (is_change change)
AsksFor d (Act (Deliver op)) = (d ≡ worded (codes "deliver") (wire op ∷ [])) × IsTrue (is_shaped op)
AsksFor d (Act (Forget id)) = (d ≡ worded (codes "forget") (id_data id ∷ [])) × IsTrue (is_id id)
AsksFor d (Run (Inserts place vals)) =
    (at : Data) × WritesPlace at place
    × (d ≡ worded (codes "inserts") (at ∷ list_data (map val_data vals) ∷ []))
    × IsTrue (has_some vals && list_all (λ val. is_change (Insert val)) vals)
AsksFor d (Run (Deletes place count)) =
    (at : Data) × WritesPlace at place
    × (d ≡ worded (codes "deletes") (at ∷ number (unsigned count) ∷ [])) × IsTrue (nat_le 1 count)
AsksFor d (Read (query.Resolve place)) =
    (at : Data) × WritesPlace at place × (d ≡ worded (codes "cursor") (at ∷ []))
AsksFor d (Read (query.Index place)) =
    (at : Data) × WritesPlace at place × (d ≡ worded (codes "index") (at ∷ []))
AsksFor d (Read (query.Look look place)) =
    (at : Data) × WritesPlace at place × (d ≡ worded (look_word look) (at ∷ []))
AsksFor d (Read (query.Operations front limit)) =
    (d ≡ worded (codes "ops") (front_data front ∷ number (unsigned limit) ∷ []))
    × IsTrue ((list_all is_entry front && is_ascending front) && is_limit limit)
AsksFor d (Read (query.Chains after front)) =
    (d ≡ worded (codes "chains") (front_data after ∷ front_data front ∷ []))
    × IsTrue ((list_all is_entry after && list_all is_entry front)
    && (is_ascending after && is_ascending front))
AsksFor d (Read (query.State Front)) = d ≡ worded (codes "front") []
AsksFor d (Read (query.State Held)) = d ≡ worded (codes "held") []
AsksFor d (Read query) = ⊥
