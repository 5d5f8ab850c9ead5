use Rattle.std.proofs.Common.{◌≡◌, take, drop, []}
use Rattle.std.specs.Prelude.{IfSome}
use Rattle.doc_tree.specs.Nodes.{tree_facts}
use Rattle.doc_rules.specs.Resolve.{path_exists}
use Rattle.doc_view.specs.OnWay.{IsOnWay}
use Rattle.doc_view.proofs.cursors.all_exist.Given as goal

abbrev pub invariant-loop-depth : goal.invariant-loop-depth
invariant-loop-depth l =
    (path_exists (tree_facts l.tree) [] l.path l.key ≡ path_exists (tree_facts l.tree) (take l.depth l.path) (drop l.depth l.path) l.key)
    × IfSome l.known (IsOnWay l.tree (take l.depth l.path))
