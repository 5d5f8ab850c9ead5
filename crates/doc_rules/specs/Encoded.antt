-- What is answered as JSON text.
use Rattle.std.specs.Prelude.{◌≡◌, ℕ, List, [], ◌∷◌, map}
use Rattle.serde_json.specs.Data.{Data, string}
use Rattle.serde_json.specs.Written.{compact_text}
use Rattle.doc_api.specs.Words.{Id, Scalar, Val, Key, Tagged, Op}
use Rattle.json_scalar.specs.Scalar.{scalar_data, val_data}
use Rattle.op_core.specs.Wire.{id_data, list_data, wire}
use Rattle.crdt_rules.specs.Facts.{Facts}
use Rattle.doc_rules.specs.Views.{Values, AreKeys, AreItems, AreConflicts}

-- an element, with the scalars of its register
abbrev pub item_data : Id × List Scalar → Data
item_data item = list_data (id_data item.0 ∷ list_data (map scalar_data item.1) ∷ [])

-- a value, with the id of the operation that put it
abbrev pub conflict_data : Id × Val → Data
conflict_data e = list_data (id_data e.0 ∷ val_data e.1 ∷ [])

-- the compact text of an array of all that is read so, each written as this JSON
abbrev pub EncodedAs : {X : Type 0} → (X → Data) → (List Tagged → Key → List X → Type 0)
    → List Tagged → Key → List ℕ
    → Type 0
EncodedAs {X} json reads p k text = (xs : List X) × reads p k xs
    × (text ≡ compact_text (list_data (map json xs)))

-- the text of the present keys of the map at a place
abbrev pub KeysText : Facts → List Tagged → Key → List ℕ → Type 0
KeysText f = EncodedAs string (AreKeys f)

-- the text of the present elements of the list at a place, each with its scalars
abbrev pub ItemsText : Facts → List Tagged → Key → List ℕ → Type 0
ItemsText f = EncodedAs item_data (AreItems f)

-- the text of the ids that make a place present and put a value at this
-- very place, each with that value
abbrev pub ConflictsText : Facts → Values → List Tagged → Key → List ℕ → Type 0
ConflictsText f values = EncodedAs conflict_data (AreConflicts f values)

-- the text of operations, in their order
abbrev pub operations_text : List Op → List ℕ
operations_text ops = compact_text (list_data (map wire ops))
