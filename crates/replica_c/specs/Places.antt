-- How places are read from JSON: the place that has this JSON, if there is one. A start may be
-- a cursor in its written form. Its texts may be of any length here: where steps lead from it
-- says why a long one is refused.
use Rattle.std.specs.Prelude.{ℕ, zero, suc, [], Option, Some, None}
use Rattle.serde_json.specs.Data.{Data, null, boolean, number, string, array, object, Items}
use Rattle.serde_json.specs.Data.{no_items, item}
use Rattle.serde_json.specs.Find.{as_u64, as_array}
use Rattle.json_scalar.specs.declared.refusal.Refusal.{Refusal}
use Rattle.json_scalar.specs.declared.refusal.Refusal.TheVariants.{BadRequest, NoMemory}
use Rattle.op_core.specs.Reading.{◌>>=◌, cursor_within}
use Rattle.op_core.specs.declared.cursor.Cursor.{Cursor}
use Rattle.op_core.specs.declared.cursor.Key.TheVariants.{Doc}
use Rattle.doc_api.specs.declared.place.Place.{Place}
use Rattle.line_proto.specs.Reading.{steps_from}

-- the cause against a place with a cursor that was refused for this one
abbrev pub in_a_place : Refusal → Refusal
in_a_place NoMemory = NoMemory
in_a_place _ = BadRequest

-- the document itself
abbrev pub whole_document : Cursor
whole_document = record { path = []; key = Doc }

abbrev pub place_start_number : Option ℕ → Option Cursor
place_start_number None = None
place_start_number (Some zero) = Some whole_document
place_start_number (Some (suc n)) = None

abbrev pub place_start : Data → Option Cursor
place_start null = None
place_start (boolean b) = None
place_start (number n) = place_start_number (as_u64 n)
place_start (string s) = None
place_start (array ds) = cursor_within None (array ds)
place_start (object ms) = None

abbrev pub place_items : Items → Option Place
place_items no_items = None
place_items (item d ds) = do
  start ← place_start d
  steps ← steps_from ds
  Some (record { start = start; steps = steps })

abbrev pub place_from : Data → Option Place
place_from d = as_array d >>= place_items
