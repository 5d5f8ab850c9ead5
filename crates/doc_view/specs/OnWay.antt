-- What is known of the way to a cursor.
use Rattle.std.specs.Prelude.{◌≡◌, List, ◌∷◌, ◌++◌, length, Some}
use Rattle.doc_api.specs.Words.{Tagged}
use Rattle.op_core.specs.Shape.{key_of}
use Rattle.doc_tree.specs.Nodes.{TreeValue, tree_number}
use Rattle.doc_view.specs.declared.known_node.KnownNode.{KnownNode}

-- the known node is that of the key behind so many keys of the path
pub record IsOnWay (tree : TreeValue) (path : List Tagged) (known : KnownNode) : Type 0 where
  pub before : List Tagged
  pub key : Tagged
  pub way : List Tagged
  pub parts : path ≡ before ++ key ∷ way
  pub depth : length before ≡ known.depth
  pub node : tree_number tree before (key_of key) ≡ Some known.node
