-- The parts of JSON text.
use Rattle.std.specs.Prelude.{◌≡◌, List, [], ◌∷◌, ◌++◌, Result, MatchResult, ⊤}
use Rattle.json.specs.Token.{Token}
use Rattle.json.specs.Tree.{json_tokens}
use Rattle.serde_json.specs.Data.{Data}
use Rattle.serde_json.specs.Written.{outline}
use Rattle.json_scalar.specs.declared.refusal.Refusal.{Refusal}
use Rattle.json_scalar.specs.declared.refusal.Refusal.TheVariants.{NoMemory}

-- the tokens of a value
abbrev pub data_tokens : Data → List Token
data_tokens d = json_tokens (outline d)

-- the tokens of values, one after another
abbrev pub all_tokens : List Data → List Token
all_tokens [] = []
all_tokens (d ∷ ds) = data_tokens d ++ all_tokens ds

-- these tokens come after the old ones, or there is no memory
abbrev pub Puts : List Token → List Token → List Token → Result ⊤ Refusal → Type 0
Puts tokens old new r = MatchResult r (λ _. new ≡ old ++ tokens) (λ e. e ≡ NoMemory)
