-- The documents of a stored log: each with its entries in their order, in the
-- order of the documents' names.
use Rattle.std.specs.Prelude.{◌≡◌, ◌≢◌, ℕ, ◌≤◌, true, Bool, List, [], ◌∷◌, ◌++◌, length}
use Rattle.std.specs.Prelude.{if◌then◌else◌, Result, Err}
use Rattle.std.specs.List.{AllByRecursion, list_any}
use Rattle.std.specs.Ordering.{is_lt}
use Rattle.std.specs.Str.{bytes_eq}
use Rattle.serde_json.specs.Written.{compact_text}
use Rattle.lamport_id.specs.Name.{is_name}
use Rattle.doc_api.specs.Words.{name_cmp, Op}
use Rattle.op_core.specs.Wire.{wire}
use Rattle.crdt_rules.specs.Log.{IsGood}
use Rattle.doc_rules.specs.Sorted.{IsRising}
use Rattle.stored_log.specs.declared.fault.Fault.{Fault}
use Rattle.stored_log.specs.declared.fault.Fault.TheVariants.{Memory}
use Rattle.stored_log.specs.Limits.{most_rows}

-- a document's name, and its entries in their order
pub record Doc : Type 0 where
  pub name : List ℕ
  pub log : List Op

-- the text of an entry: the compact JSON of its operation
abbrev pub op_text : Op → List ℕ
op_text op = compact_text (wire op)

-- This is the answer, unless out of memory.
abbrev pub UnlessNoMemory : {A : Type 0} → Result A Fault → Result A Fault → Type 0
UnlessNoMemory r expected = r ≢ Err Memory → r ≡ expected

-- ---- what the documents keep

abbrev pub AreInOrder : List Doc → Type 0
AreInOrder docs = IsRising name_cmp (λ d. d.name) docs

-- it has entries, and each fits those before it
pub record IsGoodDoc (d : Doc) : Type 0 where
  pub named : is_name d.name ≡ true
  pub some : d.log ≢ []
  pub good : IsGood d.log

abbrev pub AreGood : List Doc → Type 0
AreGood docs = AllByRecursion IsGoodDoc docs

-- documents that a stored log may have
pub record AreSound (docs : List Doc) : Type 0 where
  pub in_order : AreInOrder docs
  pub good : AreGood docs

-- ---- one document of them

abbrev pub is_named : List ℕ → Doc → Bool
is_named name d = bytes_eq d.name name

-- the entries of a document, which are none where it has no rows
abbrev pub log_of : List ℕ → List Doc → List Op
log_of name [] = []
log_of name (d ∷ docs) = if is_named name d then d.log else log_of name docs

-- the replica has made the operation
abbrev pub is_by : List ℕ → Op → Bool
is_by replica op = bytes_eq op.id.replica replica

-- ---- more entries

abbrev pub longer_by : List Op → Doc → Doc
longer_by more d = record { name = d.name; log = d.log ++ more }

-- more entries of the document of this name
abbrev pub extend : List ℕ → List Op → List Doc → List Doc
extend name more [] = []
extend name more (d ∷ docs) = if is_named name d then longer_by more d ∷ docs else d ∷ extend name more docs

-- a document more, before the first with a greater name
abbrev pub put_doc : Doc → List Doc → List Doc
put_doc new [] = new ∷ []
put_doc new (d ∷ docs) = if is_lt (name_cmp new.name d.name) then new ∷ d ∷ docs else d ∷ put_doc new docs

abbrev pub add_log : List ℕ → List Op → List Doc → List Doc
add_log name more docs =
    if list_any (λ d. is_named name d) docs then extend name more docs
    else put_doc (record { name = name; log = more }) docs

-- an empty batch makes no document
abbrev pub add_batch : List ℕ → List Op → List Doc → List Doc
add_batch name [] docs = docs
add_batch name (op ∷ ops) docs = add_log name (op ∷ ops) docs

-- The batch may be written: of a document's name, of at most 256 entries, behind all
-- that are there, and each fits.
pub record IsBatch (name : List ℕ) (from : ℕ) (ops : List Op) (docs : List Doc) : Type 0 where
  pub named : is_name name ≡ true
  pub few : length ops ≤ most_rows
  pub next : from ≡ length (log_of name docs)
  pub good : IsGood (log_of name docs ++ ops)
