-- What is written as text.
use Rattle.std.specs.Prelude.{◌≡◌, ℕ, List, [], ◌∷◌, ◌++◌, map, Bool, true, false}
use Rattle.json.specs.Token.{Token, begin_array, end_array, string}
use Rattle.serde_json.specs.Data.{Data}
use Rattle.op_core.specs.Wire.{list_data}
use Rattle.json_text.specs.Tokens.{data_tokens, all_tokens}

-- a value for which this holds is written behind the old text
abbrev pub WritesOne : (Data → Type 0) → List Token → List Token → Type 0
WritesOne holds old new = (d : Data) × holds d × (new ≡ old ++ data_tokens d)

-- values for which this holds are written, one behind another
abbrev pub WritesEach : (List Data → Type 0) → List Token → List Token → Type 0
WritesEach holds old new = (ds : List Data) × holds ds × (new ≡ old ++ all_tokens ds)

-- all of which this holds are written behind the old text, each as this JSON
abbrev pub WritesAll : {X : Type 0} → (X → Data) → (List X → Type 0) → List Token → List Token
    → Type 0
WritesAll {X} json holds old new = (xs : List X) × holds xs
    × (new ≡ old ++ all_tokens (map json xs))

-- all of which this holds are written behind the old text, as one array
abbrev pub WritesArray : {X : Type 0} → (X → Data) → (List X → Type 0) → List Token → List Token
    → Type 0
WritesArray {X} json holds old new = (xs : List X) × holds xs
    × (new ≡ old ++ data_tokens (list_data (map json xs)))

-- ---- a branch, whose beginning is written with its first part, unless it was written before

abbrev pub beginning : List ℕ → Bool → List Token
beginning tag true = begin_array ∷ string tag ∷ begin_array ∷ []
beginning tag false = []

abbrev pub ending : Bool → List Token
ending true = end_array ∷ end_array ∷ []
ending false = []

-- whether the beginning is written, once these parts are
abbrev pub begun : Bool → List Data → Bool
begun was [] = was
begun was (d ∷ ds) = true

-- these parts, with the beginning where they are the first
abbrev pub parts_tokens : List ℕ → Bool → List Data → List Token
parts_tokens tag true ds = all_tokens ds
parts_tokens tag false [] = []
parts_tokens tag false (d ∷ ds) = beginning tag true ++ all_tokens (d ∷ ds)

-- parts for which this holds are written behind the old text
abbrev pub WritesParts : List ℕ → Bool → (List Data → Type 0) → List Token → List Token → Bool
    → Type 0
WritesParts tag was holds old new is =
    (ds : List Data) × holds ds × (is ≡ begun was ds) × (new ≡ old ++ parts_tokens tag was ds)
