-- Texts among the children of a place.
use Rattle.std.specs.Prelude.{◌≡◌, ℕ, List, [], ◌∷◌, ◌++◌, Option, Some, None, Bool, false}
use Rattle.op_core.specs.declared.cursor.Key.{Key}
use Rattle.op_core.specs.declared.cursor.Key.TheVariants.{Text}
use Rattle.doc_nodes.specs.declared.node.NodeNumber.{NodeNumber}
use Rattle.doc_nodes.specs.ListPresence.{is_node_present}
use Rattle.doc_tree.specs.Nodes.{TreeValue}

-- what there is, as a list
abbrev pub listed : {X : Type 0} → Option X → List X
listed None = []
listed (Some x) = x ∷ []

-- the text of a key, if it is one
abbrev pub texts_at : Key → List (List ℕ)
texts_at (Text text) = text ∷ []
texts_at _ = []

-- the texts among these children
abbrev pub texts_in : List (Key × NodeNumber) → List (List ℕ)
texts_in [] = []
texts_in (child ∷ children) = texts_at child.0 ++ texts_in children

-- this child is a text, and its node is present
abbrev pub is_present_text : TreeValue → Key × NodeNumber → Bool
is_present_text tree (Text text, n) = is_node_present tree.0 (Some n)
is_present_text tree _ = false

-- something of which this holds is added behind the old list
abbrev pub Adds : {X : Type 0} → (List X → Type 0) → List X → List X → Type 0
Adds {X} holds old new = (added : List X) × holds added × (new ≡ old ++ added)
