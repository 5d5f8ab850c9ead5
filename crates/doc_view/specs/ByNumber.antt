-- What is read by the number of a node.
use Rattle.std.specs.Prelude.{◌≡◌, ℕ, List, Option, Some, None, Contains}
use Rattle.doc_api.specs.Words.{Id, Scalar, Key, Tagged}
use Rattle.op_core.specs.declared.cursor.Key.TheVariants.{Text, Element}
use Rattle.crdt_rules.specs.Facts.{Facts}
use Rattle.doc_tree.specs.Nodes.{TreeValue}
use Rattle.doc_nodes.specs.declared.node.NodeNumber.{NodeNumber}
use Rattle.doc_tree.specs.Nodes.{tree_facts, tree_number}
use Rattle.doc_rules.specs.Views.{HaveValues, IsPresent}
use Rattle.doc_rules.specs.Sorted.{AreThose}
use Rattle.serde_json.specs.Data.{Data}
use Rattle.doc_view.specs.Showing.{AreShown}
use Rattle.doc_view.specs.declared.node_reader.NodeReader.{NodeReader}

-- this holds at the place whose node has this number
abbrev pub AtNode : TreeValue → NodeNumber → (List Tagged → Key → Type 0) → Type 0
AtNode tree n holds = (p : List Tagged) (k : Key) → tree_number tree p k ≡ Some n → holds p k

-- this holds of the tree that is read, at the place of the node
abbrev pub AtReader : NodeReader → (TreeValue → List Tagged → Key → Type 0) → Type 0
AtReader node holds = AtNode node.tree.now node.at (holds node.tree.now)

-- the node of a text in the map to which the path leads, if the key is a text
abbrev pub IsTextAt : TreeValue → List Tagged → Key → NodeNumber → Type 0
IsTextAt tree map k n = (text : List ℕ) → k ≡ Text text → tree_number tree map (Text text) ≡ Some n

-- each of these children that is a text has its node in the map
abbrev pub AreIn : TreeValue → List Tagged → List (Key × NodeNumber) → Type 0
AreIn tree map children =
    (text : List ℕ) (n : NodeNumber) → Contains children (Text text, n)
    → tree_number tree map (Text text) ≡ Some n

-- the present ones of these elements of a list, each with its scalars
abbrev pub HasItems : Facts → List Tagged → List Id → List (Id × List Scalar) → Type 0
HasItems f list ids items =
    (kept : List Id) × AreThose (λ i. IsPresent f list (Element i)) ids kept
    × HaveValues f list kept items

-- the node of an element of the list to which the path leads, if it is present
abbrev pub IsElementAt : TreeValue → List Tagged → Id → Option NodeNumber → Type 0
IsElementAt tree list i None = ¬ (IsPresent (tree_facts tree) list (Element i))
IsElementAt tree list i (Some n) =
    (tree_number tree list (Element i) ≡ Some n) × IsPresent (tree_facts tree) list (Element i)

-- what is shown at the present ones of these elements of a list
abbrev pub ShowsThose : TreeValue → List Tagged → List Id → List Data → Type 0
ShowsThose tree list ids ds =
    (kept : List Id) × AreThose (λ i. IsPresent (tree_facts tree) list (Element i)) ids kept
    × AreShown tree list kept ds
