-- All that is at a place, as it is shown.
use Rattle.std.specs.Prelude.{◌≡◌, ◌⊎◌, ℕ, ℤ, List, [], ◌∷◌, ◌++◌, map, codes, true, Option, Some}
use Rattle.std.specs.Prelude.{None}
use Rattle.std.specs.Fmt.{signed_decimal}
use Rattle.serde_json.specs.Data.{Data, string, array, Items, no_items, item}
use Rattle.serde_json.specs.Written.{compact_text}
use Rattle.doc_api.specs.Words.{Id, Scalar, Val, Key, Tagged}
use Rattle.json_scalar.specs.Scalar.{scalar_data}
use Rattle.json_scalar.specs.declared.scalar.Val.TheVariants.{EmptyMap, EmptyList}
use Rattle.op_core.specs.declared.cursor.Key.TheVariants.{Text, Element}
use Rattle.op_core.specs.Wire.{list_data, id_data}
use Rattle.crdt_rules.specs.Facts.{Facts}
use Rattle.doc_rules.specs.Views.{Values, into_map, into_list, IsPresent, AreKeys, AreElements}
use Rattle.doc_rules.specs.Views.{AreEntries, AreTerms}
use Rattle.doc_rules.specs.Views.{total}

mutual
  -- what is shown: the map and the list of the place, where they stand there, the entries of its
  -- register, and the total of its counter, where that has an entry
  pub data Shown : Type 0 where
    shown : MapShown → ListShown → List (Id × Scalar) → Option ℤ → Shown

  pub data MapShown : Type 0 where
    no_map : MapShown
    a_map : Fields → MapShown

  pub data ListShown : Type 0 where
    no_list : ListShown
    a_list : Elements → ListShown

  pub data Fields : Type 0 where
    no_fields : Fields
    field : List ℕ → Shown → Fields → Fields

  pub data Elements : Type 0 where
    no_elements : Elements
    element : Shown → Elements → Elements

abbrev pub names : Fields → List (List ℕ)
names no_fields = []
names (field name e fields) = name ∷ names fields

-- an id that makes the place present has put this value at this very place
abbrev pub IsPut : Facts → Values → List Tagged → Key → Val → Type 0
IsPut f values p k v = (i : Id) × (f.present p k i ≡ true) × (values p k i ≡ Some v)

-- a map is at the place: it has a present key, or is put there
abbrev pub HasMap : Facts → Values → List Tagged → Key → Type 0
HasMap f values p k = ((text : List ℕ) × IsPresent f (into_map p k) (Text text))
    ⊎ IsPut f values p k EmptyMap

-- a list is at the place: it has a present element, or is put there
abbrev pub HasList : Facts → Values → List Tagged → Key → List Id → Type 0
HasList f values p k ids = ¬ (ids ≡ []) ⊎ IsPut f values p k EmptyList

abbrev pub total_shown : List (Id × ℤ) → Option ℤ
total_shown [] = None
total_shown (term ∷ terms) = Some (total (term ∷ terms))

abbrev pub ShowsCount : Facts → List Tagged → Key → Option ℤ → Type 0
ShowsCount f p k count = (terms : List (Id × ℤ)) × AreTerms f p k terms
    × (count ≡ total_shown terms)

module _ (f : Facts) (values : Values) where
  abbrev mutual
    -- what is shown at a place
    pub Shows : List Tagged → Key → Shown → Type 0
    Shows p k (shown m l entries count) =
        ShowsMap p k m × ShowsList p k l × AreEntries f p k entries × ShowsCount f p k count

    pub ShowsMap : List Tagged → Key → MapShown → Type 0
    ShowsMap p k no_map = ¬ (HasMap f values p k)
    ShowsMap p k (a_map fields) = HasMap f values p k × AreKeys f p k (names fields)
        × ShowsFields (into_map p k) fields

    pub ShowsList : List Tagged → Key → ListShown → Type 0
    ShowsList p k no_list = (ids : List Id) × AreElements f p k ids × ¬ (HasList f values p k ids)
    ShowsList p k (a_list es) =
        (ids : List Id) × AreElements f p k ids × HasList f values p k ids
        × ShowsElements (into_list p k) ids es

    -- each under its name, in the map at the path
    pub ShowsFields : List Tagged → Fields → Type 0
    ShowsFields p no_fields = Unit {0}
    ShowsFields p (field name e fields) = Shows p (Text name) e × ShowsFields p fields

    -- those of these ids, in the list at the path
    pub ShowsElements : List Tagged → List Id → Elements → Type 0
    ShowsElements p ids no_elements = ids ≡ []
    ShowsElements p ids (element e es) =
        (i : Id) × (rest : List Id) × (ids ≡ i ∷ rest) × Shows p (Element i) e
        × ShowsElements p rest es

-- ---- how it is written: an array of its branches

abbrev pub value_entry_data : Id × Scalar → Data
value_entry_data e = list_data (string (codes "val") ∷ id_data e.0 ∷ scalar_data e.1 ∷ [])

abbrev pub count_branch : Option ℤ → List Data
count_branch None = []
count_branch (Some n) = list_data (string (codes "cnt") ∷ string (signed_decimal n) ∷ []) ∷ []

abbrev mutual
  pub shown_data : Shown → Data
  shown_data (shown m l entries count) =
      list_data (map_branch m ++ list_branch l ++ map value_entry_data entries ++ count_branch count)

  pub map_branch : MapShown → List Data
  map_branch no_map = []
  map_branch (a_map fields) = list_data (string (codes "map") ∷ array (fields_data fields) ∷ []) ∷ []

  pub list_branch : ListShown → List Data
  list_branch no_list = []
  list_branch (a_list es) = list_data (string (codes "list") ∷ array (elements_data es) ∷ []) ∷ []

  pub fields_data : Fields → Items
  fields_data no_fields = no_items
  fields_data (field name e fields) = item (list_data (string name ∷ shown_data e ∷ [])) (fields_data fields)

  pub elements_data : Elements → Items
  elements_data no_elements = no_items
  elements_data (element e es) = item (shown_data e) (elements_data es)

-- the text of what is shown at a place
abbrev pub ShowsText : Facts → Values → List Tagged → Key → List ℕ → Type 0
ShowsText f values p k text = (e : Shown) × Shows f values p k e
    × (text ≡ compact_text (shown_data e))
