-- Values by keys.
use Rattle.std.specs.Prelude.{List, [], ◌∷◌, Option, Some, None, if◌then◌else◌}
use Rattle.op_core.specs.declared.cursor.Key.{Key}
use Rattle.crdt_rules.specs.Same.{key_eq}

-- the value at a key
abbrev pub at_key : {V : Type 0} → List (Key × V) → Key → Option V
at_key [] key = None
at_key (e ∷ entries) key = if key_eq e.0 key then Some e.1 else at_key entries key
