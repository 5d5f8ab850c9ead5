-- The ids of a list in its order, each with whether it is present.
use Rattle.std.specs.Prelude.{List, [], ◌∷◌, map, filter, Bool, false, Option, Some, None, if◌then◌else◌}
use Rattle.std.specs.declared.cmp.Ordering.{Ordering}
use Rattle.doc_api.specs.Words.{Id, id_cmp}
use Rattle.crdt_rules.specs.Same.{id_eq}

abbrev pub ids_of : List (Id × Bool) → List Id
ids_of entries = map (λ e. e.0) entries

-- the present ids
abbrev pub present_of : List (Id × Bool) → List Id
present_of entries = ids_of (filter (λ e. e.1) entries)

-- entries go by their ids
abbrev pub entry_cmp : Id × Bool → Id × Bool → Ordering
entry_cmp a b = id_cmp a.0 b.0

-- an entry that is not present
abbrev pub absent : Id → Id × Bool
absent id = (id, false)

-- the entry after which one is inserted
abbrev pub entry_of_reference : Option Id → Option (Id × Bool)
entry_of_reference None = None
entry_of_reference (Some id) = Some (absent id)

-- an id is present or not, and all others as they were
abbrev pub with_presence : List (Id × Bool) → Id → Bool → List (Id × Bool)
with_presence entries id is = map (λ e. if id_eq e.0 id then (e.0, is) else e) entries

-- the entries with none present
abbrev pub all_absent : List (Id × Bool) → List (Id × Bool)
all_absent entries = map (λ e. absent e.0) entries

-- the entries up to the first with an id, itself included. All of them, where none has it
abbrev pub up_to : Id → List (Id × Bool) → List (Id × Bool)
up_to id [] = []
up_to id (e ∷ entries) = if id_eq e.0 id then e ∷ [] else e ∷ up_to id entries
