-- How many present elements come up to one of a list.
use Rattle.std.specs.Prelude.{◌≡◌, ℕ, List, [], ◌∷◌, length, Result, Ok, Err, if◌then◌else◌}
use Rattle.doc_api.specs.Words.{Id, Refusal, Key, Tagged}
use Rattle.json_scalar.specs.declared.refusal.Refusal.TheVariants.{NotInList}
use Rattle.op_core.specs.declared.cursor.Key.TheVariants.{Element, Head}
use Rattle.crdt_rules.specs.Same.{id_eq}
use Rattle.crdt_rules.specs.Facts.{Facts}
use Rattle.doc_rules.specs.Views.{IsPresent}
use Rattle.doc_rules.specs.Sorted.{AreThose}

-- the ids of a list up to one of them, itself included; all where it isn't one of them
abbrev pub ids_up_to : Id → List Id → List Id
ids_up_to i [] = []
ids_up_to i (j ∷ ids) = if id_eq j i then j ∷ [] else j ∷ ids_up_to i ids

-- at a key after a path: how many present elements of the list there come up to it
abbrev pub IsIndexAt : Facts → List Tagged → Key → Result ℕ Refusal → Type 0
IsIndexAt f p (Element i) r =
    (ids : List Id) × AreThose (λ j. IsPresent f p (Element j)) (ids_up_to i (f.order p)) ids
    × (r ≡ Ok (length ids))
IsIndexAt f p Head r = r ≡ Ok 0
IsIndexAt f p _ r = r ≡ Err NotInList
