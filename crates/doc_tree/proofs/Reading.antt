-- What is read at a place.
use Rattle.std.proofs.Common.{◌≡◌, ℤ, List, [], Some, None, sym, ap}
use Rattle.doc_api.specs.Words.{Id, Scalar, Key, Tagged}
use Rattle.doc_api.specs.declared.role.Role.{Role}
use Rattle.presence_set.specs.ById.{get}
use Rattle.list_order.specs.Entries.{ids_of}
use Rattle.doc_nodes.specs.declared.node.NodeNumber.{NodeNumber}
use Rattle.doc_nodes.specs.declared.node.Node.{Node}
use Rattle.doc_nodes.specs.Nodes.{node_of, node_at, list_node_at}
use Rattle.doc_tree.specs.Facts.{role_in, register_in, number_in, ids_in, role_at, facts_of}

module _ (nodes : List Node) (p : List Tagged) (k : Key) where
  pub role_read : (n : NodeNumber) → node_at nodes p k ≡ Some n → (i : Id) → get (node_of nodes n).presence.0 i ≡ role_at nodes p k i
  unfolding role_at
  role_read n e i = ap (λ o. role_in nodes o i) (sym e)

  pub role_absent : node_at nodes p k ≡ None → (i : Id) → get {X = Role} [] i ≡ role_at nodes p k i
  unfolding role_at
  role_absent e i = ap (λ o. role_in nodes o i) (sym e)

  pub scalar_read : (n : NodeNumber) → node_at nodes p k ≡ Some n → (i : Id) → get (node_of nodes n).register.0 i ≡ (facts_of nodes).register p k i
  unfolding facts_of
  scalar_read n e i = ap (λ o. register_in nodes o i) (sym e)

  pub scalar_absent : node_at nodes p k ≡ None → (i : Id) → get {X = Scalar} [] i ≡ (facts_of nodes).register p k i
  unfolding facts_of
  scalar_absent e i = ap (λ o. register_in nodes o i) (sym e)

  pub number_read : (n : NodeNumber) → node_at nodes p k ≡ Some n → (i : Id) → get (node_of nodes n).counter.0 i ≡ (facts_of nodes).counter p k i
  unfolding facts_of
  number_read n e i = ap (λ o. number_in nodes o i) (sym e)

  pub number_absent : node_at nodes p k ≡ None → (i : Id) → get {X = ℤ} [] i ≡ (facts_of nodes).counter p k i
  unfolding facts_of
  number_absent e i = ap (λ o. number_in nodes o i) (sym e)

pub ids_read : (nodes : List Node) (p : List Tagged) (n : NodeNumber) → list_node_at nodes p ≡ Some n → ids_of (node_of nodes n).order.0 ≡ (facts_of nodes).order p
unfolding facts_of
ids_read nodes p n e = ap (ids_in nodes) (sym e)

pub ids_absent : (nodes : List Node) (p : List Tagged) → list_node_at nodes p ≡ None → [] ≡ (facts_of nodes).order p
unfolding facts_of
ids_absent nodes p e = ap (ids_in nodes) (sym e)
