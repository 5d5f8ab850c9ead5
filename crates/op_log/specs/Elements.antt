-- The elements that a cursor names: which a front covers, and which a log inserts.
use Rattle.std.specs.Prelude.{ℕ, List, [], ◌∷◌, ◌++◌, Bool, true, ◌&&◌}
use Rattle.std.specs.List.{list_all}
use Rattle.doc_api.specs.Words.{Op, Key, Tagged}
use Rattle.op_core.specs.declared.cursor.Key.TheVariants.{Element}
use Rattle.version_vector.specs.Front.{covers}
use Rattle.op_core.specs.Shape.{key_of}
use Rattle.crdt_rules.specs.Fits.{is_element}

-- the front covers a key, if it is an element's
abbrev pub covers_key : List (List ℕ × ℕ) → Key → Bool
covers_key front (Element i) = covers front i
covers_key front _ = true

-- the front covers each element that is a key of a cursor
abbrev pub covers_cursor : List (List ℕ × ℕ) → List Tagged → Key → Bool
covers_cursor front path k = list_all (λ t. covers_key front (key_of t)) path && covers_key front k

-- the log inserts a key into the list at p, if it is an element's
abbrev pub inserts_key : List Op → List Tagged → Key → Bool
inserts_key log p (Element i) = is_element log p i
inserts_key log p _ = true

-- the log inserts each element that is a key of a cursor; p is the way so far
abbrev pub inserts_cursor : List Op → List Tagged → List Tagged → Key → Bool
inserts_cursor log p [] k = inserts_key log p k
inserts_cursor log p (t ∷ path) k = inserts_key log p (key_of t)
    && inserts_cursor log (p ++ t ∷ []) path k
