-- What a document shows at a place, read from its facts, and from the
-- values that its operations put.
use Rattle.std.specs.Prelude.{◌≡◌, ℕ, ℤ, pos, ◌+ℤ◌, List, [], ◌∷◌, ◌++◌, map, true, false, Option}
use Rattle.std.specs.Prelude.{Some, Result, Ok}
use Rattle.std.specs.Prelude.{Err}
use Rattle.doc_api.specs.Words.{Id, name_cmp, id_cmp, Scalar, Val, Refusal, Cursor, Key, Tagged}
use Rattle.json_scalar.specs.declared.refusal.Refusal.TheVariants.{AtHead}
use Rattle.op_core.specs.declared.cursor.Key.TheVariants.{Text, Element}
use Rattle.op_core.specs.declared.cursor.Tagged.TheVariants as tagged
use Rattle.op_core.specs.Shape.{is_head}
use Rattle.crdt_rules.specs.Facts.{Facts}
use Rattle.doc_rules.specs.Sorted.{AreAll, AreThose}

-- the value that the operation of an id put at a place
abbrev pub Values : Type 0
Values = List Tagged → Key → Id → Option Val

-- the paths into the map and into the list at a place
abbrev pub into_map : List Tagged → Key → List Tagged
into_map p k = p ++ tagged.Map k ∷ []

abbrev pub into_list : List Tagged → Key → List Tagged
into_list p k = p ++ tagged.List k ∷ []

-- some id makes the place present
abbrev pub IsPresent : Facts → List Tagged → Key → Type 0
IsPresent f p k = (i : Id) × (f.present p k i ≡ true)

-- the present keys of the map at a place, in byte order
abbrev pub AreKeys : Facts → List Tagged → Key → List (List ℕ) → Type 0
AreKeys f p k = AreAll name_cmp (λ text. text) (λ text. IsPresent f (into_map p k) (Text text))

-- the present elements of the list at a place, in list order
abbrev pub AreElements : Facts → List Tagged → Key → List Id → Type 0
AreElements f p k = AreThose
    (λ i. IsPresent f (into_list p k) (Element i)) (f.order (into_list p k))

-- the entries of the register at a place, in id order
abbrev pub AreEntries : Facts → List Tagged → Key → List (Id × Scalar) → Type 0
AreEntries f p k = AreAll id_cmp (λ entry. entry.0) (λ entry. f.register p k entry.0 ≡ Some entry.1)

-- the scalars of the register at a place, in the order of their ids
abbrev pub AreValues : Facts → List Tagged → Key → List Scalar → Type 0
AreValues f p k scalars =
    (entries : List (Id × Scalar)) × AreEntries f p k entries
    × (scalars ≡ map (λ entry. entry.1) entries)

-- each id with the scalars of the element's register
abbrev pub HaveValues : Facts → List Tagged → List Id → List (Id × List Scalar) → Type 0
HaveValues f p [] [] = Unit {0}
HaveValues f p (i ∷ ids) (item ∷ items) = (item.0 ≡ i) × AreValues f p (Element i) item.1
    × HaveValues f p ids items
HaveValues f p _ _ = ⊥

-- the present elements of the list at a place, each with its scalars
abbrev pub AreItems : Facts → List Tagged → Key → List (Id × List Scalar) → Type 0
AreItems f p k items = (ids : List Id) × AreElements f p k ids
    × HaveValues f (into_list p k) ids items

-- the entries of the counter at a place, in id order
abbrev pub AreTerms : Facts → List Tagged → Key → List (Id × ℤ) → Type 0
AreTerms f p k = AreAll id_cmp (λ term. term.0) (λ term. f.counter p k term.0 ≡ Some term.1)

-- their total, 0 where there is none
abbrev pub total : List (Id × ℤ) → ℤ
total [] = pos 0
total (term ∷ terms) = term.1 +ℤ total terms

abbrev pub IsSum : Facts → List Tagged → Key → ℤ → Type 0
IsSum f p k sum = (terms : List (Id × ℤ)) × AreTerms f p k terms × (sum ≡ total terms)

-- the ids that make a place present and put a value at this very place,
-- each with that value, in id order
abbrev pub AreConflicts : Facts → Values → List Tagged → Key → List (Id × Val) → Type 0
AreConflicts f values p k =
    AreAll id_cmp (λ entry. entry.0)
    (λ entry. (f.present p k entry.0 ≡ true) × (values p k entry.0 ≡ Some entry.1))

-- two assignments of values agree on the ids that make a place present
abbrev pub AgreeOnPresent : Facts → Values → Values → Type 0
AgreeOnPresent f v w = (p : List Tagged) (k : Key) (i : Id) → f.present p k i ≡ true
    → v p k i ≡ w p k i

-- ---- at a cursor

-- a reading of this kind at the place of a cursor; there is none at a head
abbrev pub ReadsPlace : {X : Type 0} → (List Tagged → Key → X → Type 0) → Cursor → Result X Refusal
    → Type 0
ReadsPlace reads c (Ok x) = (is_head c.key ≡ false) × reads c.path c.key x
ReadsPlace reads c (Err cause) = (is_head c.key ≡ true) × (cause ≡ AtHead)
