use Rattle.std.proofs.Common.{◌≡◌, ℕ, ◌+◌, ◌*◌, ◌-◌, length, codes, take, drop}
use Rattle.doc_rules.specs.Views.{into_list, into_map}
use Rattle.doc_view.specs.ByNumber.{AtNode, ShowsThose}
use Rattle.doc_view.specs.Members.{texts_in}
use Rattle.doc_view.specs.Showing.{AreFields}
use Rattle.doc_view.specs.Writing.{WritesParts}
use Rattle.doc_view.proofs.branches.+node.Given as goal

abbrev pub decreases-write_node : goal.decreases-write_node
decreases-write_node l = 6 * (length l.node.tree.now.0 - l.node.at.0) + 3

abbrev pub decreases-write_map : goal.decreases-write_map
decreases-write_map l = 6 * (length l.node.tree.now.0 - l.node.at.0) + 2

abbrev pub decreases-write_list : goal.decreases-write_list
decreases-write_list l = 6 * (length l.node.tree.now.0 - l.node.at.0) + 2

abbrev pub decreases-write_fields : goal.decreases-write_fields
decreases-write_fields l = 6 * (length l.node.tree.now.0 - l.node.at.0) + 1

abbrev pub decreases-write_elements : goal.decreases-write_elements
decreases-write_elements l = 6 * (length l.list.tree.now.0 - l.list.at.0) + 1

abbrev pub decreases-write_named_node : goal.decreases-write_named_node
decreases-write_named_node l = 6 * (length l.node.tree.now.0 - l.node.at.0) + 4

abbrev pub decreases-write_field : goal.decreases-write_field
decreases-write_field l = 6 * (length l.node.tree.now.0 - l.node.at.0) + 5

abbrev pub decreases-write_element : goal.decreases-write_element
decreases-write_element l = 6 * (length l.list.tree.now.0 - l.list.at.0)

abbrev pub invariant-write_fields-loop-child : goal.invariant-write_fields-loop-child
invariant-write_fields-loop-child l =
    (i : ℕ) × (drop i l.fn.children ≡ l.child-iterator)
    × WritesParts (codes "map") l.fn.was_begun (λ ds. AtNode l.fn.node.tree.now l.fn.node.at (λ p k. AreFields l.fn.node.tree.now (into_map p k) (texts_in (take i l.fn.children)) ds))
    l.initial.text l.text l.is_begun

abbrev pub invariant-write_elements-loop-id : goal.invariant-write_elements-loop-id
invariant-write_elements-loop-id l =
    WritesParts (codes "list") l.fn.was_begun (λ ds. AtNode l.fn.list.tree.now l.fn.list.at (λ p k. ShowsThose l.fn.list.tree.now (into_list p k) (take l.id-index l.ids) ds))
    l.initial.text l.text l.is_begun
