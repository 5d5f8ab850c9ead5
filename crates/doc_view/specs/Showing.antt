-- What the parts of a shown element mean, and their JSON.
use Rattle.std.specs.Prelude.{◌≡◌, ℕ, List, [], ◌∷◌, map}
use Rattle.serde_json.specs.Data.{Data, string}
use Rattle.doc_api.specs.Words.{Id, Key, Tagged}
use Rattle.op_core.specs.declared.cursor.Key.TheVariants.{Text, Element}
use Rattle.op_core.specs.Wire.{list_data}
use Rattle.doc_tree.specs.Nodes.{TreeValue}
use Rattle.doc_tree.specs.Nodes.{tree_facts}
use Rattle.doc_rules.specs.Views.{IsPresent}
use Rattle.doc_rules.specs.Shown.{Shown, MapShown, ListShown, Shows, ShowsMap, ShowsList}
use Rattle.doc_rules.specs.Shown.{shown_data, map_branch}
use Rattle.doc_rules.specs.Shown.{list_branch}
use Rattle.doc_rules.specs.Sorted.{AreThose}
use Rattle.doc_view.specs.TreeValues.{tree_values}

-- a text and what is shown under it
abbrev pub field_data : List ℕ × Shown → Data
field_data field = list_data (string field.0 ∷ shown_data field.1 ∷ [])

module _ (tree : TreeValue) (p : List Tagged) where
  -- this JSON is what is shown at a place
  pub record IsShown (k : Key) (d : Data) : Type 0 where
    pub shown : Shown
    pub shows : Shows (tree_facts tree) (tree_values tree) p k shown
    pub is : d ≡ shown_data shown

  pub record IsMapShown (k : Key) (branch : List Data) : Type 0 where
    pub shown : MapShown
    pub shows : ShowsMap (tree_facts tree) (tree_values tree) p k shown
    pub is : branch ≡ map_branch shown

  pub record IsListShown (k : Key) (branch : List Data) : Type 0 where
    pub shown : ListShown
    pub shows : ShowsList (tree_facts tree) (tree_values tree) p k shown
    pub is : branch ≡ list_branch shown

  -- each text with what is shown under it in the map to which the path leads
  abbrev pub EachField : List (List ℕ × Shown) → Type 0
  EachField [] = Unit {0}
  EachField (field ∷ fields) = Shows (tree_facts tree) (tree_values tree) p (Text field.0) field.1
      × EachField fields

  -- these are the fields of the present ones of the texts
  pub record AreFields (texts : List (List ℕ)) (ds : List Data) : Type 0 where
    pub fields : List (List ℕ × Shown)
    pub kept : AreThose (λ t. IsPresent (tree_facts tree) p (Text t)) texts
        (map (λ (field : List ℕ × Shown). field.0) fields)
    pub each : EachField fields
    pub is : ds ≡ map field_data fields

  -- what is shown at each element of the list to which the path leads
  abbrev pub EachElement : List Id → List Shown → Type 0
  EachElement [] [] = Unit {0}
  EachElement (i ∷ ids) (e ∷ es) = Shows (tree_facts tree) (tree_values tree) p (Element i) e
      × EachElement ids es
  EachElement _ _ = ⊥

  -- these are the elements of the ids
  pub record AreShown (ids : List Id) (ds : List Data) : Type 0 where
    pub elements : List Shown
    pub each : EachElement ids elements
    pub is : ds ≡ map shown_data elements
