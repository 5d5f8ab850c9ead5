-- The node that is known on the way to a cursor.
use Rattle.std.proofs.Common.{◌≡◌, ◌<◌, ◌≤◌, ◌-◌, arith, List, [], ◌∷◌, ◌++◌, length, take, take_all, drop, Option, Some, None, Result, Ok, Err, sym, ap, subst, ◌∙◌, append_assoc, length-append}
use Rattle.std.specs.Prelude.{IfOk, IfSome}
use Rattle.std.proofs.lemmas.List.Prefix.{front_rest}
use Rattle.std.proofs.lemmas.List.{length-drop}
use Rattle.doc_api.specs.Words.{Refusal, Cursor, Tagged}
use Rattle.op_core.specs.declared.cursor.Tagged.TheVariants.{Map as MapAt, List as ListAt}
use Rattle.doc_nodes.specs.declared.node.NodeNumber.{NodeNumber}
use Rattle.doc_nodes.specs.Nodes.{list_node_at}
use Rattle.doc_rules.specs.Views.{into_map}
use Rattle.doc_tree.specs.Nodes.{TreeValue, tree_list, tree_list_below}
use Rattle.doc_tree.proofs.ListsBelow.{list_from, list_end}
use Rattle.doc_view.specs.declared.known_node.KnownNode.{KnownNode}
use Rattle.doc_view.specs.OnWay.{IsOnWay}

-- it is known on a longer way too
pub known_longer : (tree : TreeValue) (path : List Tagged) (known : Option KnownNode) (t : Tagged)
    → IfSome known (IsOnWay tree path) → IfSome known (IsOnWay tree (path ++ t ∷ []))
known_longer tree path None t on = on
known_longer tree path (Some known) t on =
    record {
      before = on.before;
      key = on.key;
      way = on.way ++ t ∷ [];
      parts = ap (λ p. p ++ t ∷ []) on.parts ∙ append_assoc on.before (on.key ∷ on.way) (t ∷ []);
      depth = on.depth;
      node = on.node;
    }

module _ (tree : TreeValue) (path : List Tagged) where
  -- its depth is within the path, and the list at the end is found from it
  pub within_way : (known : KnownNode) → IsOnWay tree path known → known.depth ≤ length path
  within_way known on = omega (arith, on.depth, ap length on.parts, length-append on.before (on.key ∷ on.way))

  pub list_on_way : (known : KnownNode) → IsOnWay tree path known
      → tree_list_below tree known.node (take (length path - known.depth) (drop known.depth path)) ≡ tree_list tree path
  list_on_way known on =
      ap (tree_list_below tree known.node) (take_all (length path - known.depth) (drop known.depth path) (omega (arith, length-drop known.depth path)) ∙ left)
      ∙ sym (ap (list_node_at tree.0) on.parts ∙ list_from tree.0 on.before on.key on.way known.node on.node)
    where
      left : drop known.depth path ≡ on.key ∷ on.way
      left = ap (λ n. drop n path) (sym on.depth) ∙ front_rest path on.before (on.key ∷ on.way) on.parts

  -- a list has its node at the last key
  pub list_not_first : (n : NodeNumber) → tree_list tree path ≡ Some n → 0 < length path
  list_not_first n e =
      let last = list_end tree.0 path n e in
      omega (arith, ap length last.2, length-append last.0 (ListAt last.1 ∷ []))

  pub list_known : (n : NodeNumber) → tree_list tree path ≡ Some n → IsOnWay tree path (record { node = n; depth = length path - 1 })
  list_known n e =
      let last = list_end tree.0 path n e in
      record {
        before = last.0;
        key = ListAt last.1;
        way = [];
        parts = last.2;
        depth = omega (arith, ap length last.2, length-append last.0 (ListAt last.1 ∷ []));
        node = last.3;
      }

-- a step into a map keeps it
pub known_in_map : (tree : TreeValue) (from : Cursor) (known : Option KnownNode) (r : Result Cursor Refusal) → IfOk r (λ c. c.path ≡ into_map from.path from.key)
    → IfSome known (IsOnWay tree from.path) → IfOk r (λ c. IfSome known (IsOnWay tree c.path))
known_in_map tree from known (Ok c) into on =
    subst (λ (p : List Tagged). IfSome known (IsOnWay tree p)) (sym into) (known_longer tree from.path known (MapAt from.key) on)
known_in_map tree from known (Err e) into on = into
