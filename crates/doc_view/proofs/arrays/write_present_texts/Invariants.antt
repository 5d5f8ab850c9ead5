use Rattle.std.proofs.Common.{◌≡◌, ◌++◌, List, length}
use Rattle.serde_json.specs.Data.{string}
use Rattle.op_core.specs.declared.cursor.Key.{Key}
use Rattle.op_core.specs.declared.cursor.Key.TheVariants.{Text}
use Rattle.op_core.specs.declared.cursor.Tagged.{Tagged}
use Rattle.doc_nodes.specs.declared.node.NodeNumber.{NodeNumber}
use Rattle.doc_tree.specs.Nodes.{tree_facts}
use Rattle.doc_rules.specs.Views.{IsPresent}
use Rattle.doc_rules.specs.Sorted.{AreThose}
use Rattle.doc_view.specs.ByNumber.{AreIn}
use Rattle.doc_view.specs.Members.{texts_in}
use Rattle.doc_view.specs.Writing.{WritesAll}
use Rattle.doc_view.proofs.arrays.write_present_texts.Given as goal

abbrev pub invariant-loop-block : goal.invariant-loop-block
invariant-loop-block l =
    (passed : List (Key × NodeNumber)) × (passed ++ l.children ≡ l.fn.children)
    × WritesAll string (λ names. (map : List Tagged) → AreIn l.tree map l.fn.children
    → AreThose (λ t. IsPresent (tree_facts l.tree) map (Text t)) (texts_in passed) names) l.initial.text l.text

abbrev pub decreases-loop-block : goal.decreases-loop-block
decreases-loop-block l = length l.children
