-- The facts of a document that is kept as numbered nodes.
use Rattle.std.specs.Prelude.{ℤ, List, [], Option, Some, None, is_some}
use Rattle.doc_api.specs.Words.{Id, Scalar, Key, Tagged}
use Rattle.doc_api.specs.declared.role.Role.{Role}
use Rattle.crdt_rules.specs.Facts.{Facts}
use Rattle.presence_set.specs.ById.{get}
use Rattle.list_order.specs.Entries.{ids_of}
use Rattle.doc_nodes.specs.declared.node.NodeNumber.{NodeNumber}
use Rattle.doc_nodes.specs.declared.node.Node.{Node}
use Rattle.doc_nodes.specs.Nodes.{node_of, node_at, list_node_at}

-- what a node holds, if there is one
abbrev pub role_in : List Node → Option NodeNumber → Id → Option Role
role_in nodes None i = None
role_in nodes (Some n) i = get (node_of nodes n).presence.0 i

abbrev pub part_in : {X : Type 0} → (Node → List (Id × X)) → List Node → Option NodeNumber → Id
    → Option X
part_in part nodes None i = None
part_in part nodes (Some n) i = get (part (node_of nodes n)) i

abbrev pub register_in : List Node → Option NodeNumber → Id → Option Scalar
register_in = part_in (λ node. node.register.0)

abbrev pub number_in : List Node → Option NodeNumber → Id → Option ℤ
number_in = part_in (λ node. node.counter.0)

abbrev pub ids_in : List Node → Option NodeNumber → List Id
ids_in nodes None = []
ids_in nodes (Some n) = ids_of (node_of nodes n).order.0

-- the role of an operation at a place
unfoldable pub role_at : List Node → List Tagged → Key → Id → Option Role
role_at nodes p k i = role_in nodes (node_at nodes p k) i

-- the facts of a document that is kept as numbered nodes
unfoldable pub facts_of : List Node → Facts
facts_of nodes =
    record {
      present = λ p k i. is_some (role_at nodes p k i);
      register = λ p k i. register_in nodes (node_at nodes p k) i;
      counter = λ p k i. number_in nodes (node_at nodes p k) i;
      order = λ p. ids_in nodes (list_node_at nodes p);
    }
