-- What is reported of a stored log.
use Rattle.std.specs.Prelude.{◌≡◌, ◌⊎◌, ℕ, List, [], ◌∷◌, ◌++◌, Option, codes, flat_map, length}
use Rattle.std.specs.Io.KnownBytes.{Appends}
use Rattle.serde_json.specs.Data.{Data, number, unsigned, string}
use Rattle.serde_json.specs.Written.{compact_text}
use Rattle.line_feed.specs.Cut.{AppendsCut, line_of}
use Rattle.op_core.specs.Wire.{list_data, front_data}
use Rattle.crdt_rules.specs.Pull.{front_of}
use Rattle.stored_log.specs.Docs.{Doc, AreInOrder, AreGood, log_of}

-- a document's name, how many rows it has, and their front
abbrev pub rows_data : List ℕ → ℕ → List (List ℕ × ℕ) → Data
rows_data name rows front =
    list_data (string (codes "doc") ∷ string name ∷ number (unsigned rows) ∷ front_data front ∷ [])

abbrev pub doc_data : Doc → Data
doc_data d = rows_data d.name (length d.log) (front_of d.log)

abbrev pub epoch_data : ℕ → Data
epoch_data epoch = list_data (string (codes "epoch") ∷ number (unsigned epoch) ∷ [])

abbrev pub doc_line : Doc → List ℕ
doc_line d = line_of (compact_text (doc_data d))

abbrev pub doc_lines : List Doc → List ℕ
doc_lines docs = flat_map doc_line docs

-- the line of the document of this name
abbrev pub line_by : List Doc → List ℕ → List ℕ
line_by docs name = doc_line (record { name = name; log = log_of name docs })

-- a line for each document, and one for the epoch
abbrev pub report : List Doc → ℕ → List ℕ
report docs epoch = doc_lines docs ++ line_of (compact_text (epoch_data epoch))

-- ["no",26,"copy-refused"]
abbrev pub refusal_line : List ℕ
refusal_line = codes "[\"no\",26,\"copy-refused\"]\n"

-- the report of some documents, each good, in the order of their names
pub record IsReport (text : List ℕ) : Type 0 where
  pub docs : List Doc
  pub epoch : ℕ
  pub in_order : AreInOrder docs
  pub good : AreGood docs
  pub reported : text ≡ report docs epoch

abbrev pub Reports : Option (List ℕ) → Option (List ℕ) → Type 0
Reports out_before out_after = (text : List ℕ) × IsReport text × Appends out_before out_after text

-- the refusal, or a part of it or of a report
abbrev pub StopsShort : Option (List ℕ) → Option (List ℕ) → Type 0
StopsShort out_before out_after =
    Appends out_before out_after refusal_line
    ⊎ ((text : List ℕ) × (IsReport text ⊎ (text ≡ refusal_line))
    × AppendsCut out_before out_after text)
