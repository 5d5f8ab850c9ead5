use Rattle.std.proofs.Common.{◌≡◌, ℕ, ◌+◌, ◌*◌, ◌-◌, ◌<◌, ◌≤◌, ◌++◌, List, [], length, get_or, take}
use Rattle.lamport_id.specs.declared.id.Id.{Id}
use Rattle.op_core.specs.declared.cursor.Key.{Key}
use Rattle.doc_nodes.specs.declared.node.NodeNumber.{NodeNumber}
use Rattle.doc_nodes.specs.declared.node.Node.{Node}
use Rattle.key_map.specs.Blocks.{joined}
use Rattle.doc_nodes.specs.Nodes.{node_of, IsPartCleared, ClearsFirst}
use Rattle.doc_nodes.specs.HasPresence.{HavePresenceFrom}
use Rattle.doc_nodes.specs.ListPresence.{plain, ShowsPresence, ShowsPresenceBut, HaveCandidates}
use Rattle.doc_nodes.proofs.clear.+clearing.Given as goal

abbrev pub decreases-clear_under : goal.decreases-clear_under
decreases-clear_under l = 2 * (length l.nodes.now - l.at.0) + 1

abbrev pub decreases-clear_block : goal.decreases-clear_block
decreases-clear_block l = 2 * (length l.nodes.now - l.at.0)

abbrev pub invariant-clear_under-loop-block : goal.invariant-clear_under-loop-block
invariant-clear_under-loop-block l =
    ClearsFirst l.front (plain l.fn.nodes) (plain l.nodes) l.at (joined (take l.block (node_of l.fn.nodes l.at).children.1))
    × (l.blocks ≡ length (node_of l.fn.nodes l.at).children.1)
    × ((n : NodeNumber) (i : Id) → ShowsPresence l.fn.nodes n i → ShowsPresenceBut l.nodes l.at n i)
    × HavePresenceFrom l.nodes (l.at.0 + 1)
    × HaveCandidates l.nodes
    × ((n : NodeNumber) → n.0 < l.at.0 → (node_of l.nodes n).children ≡ (node_of l.fn.nodes n).children)
    × ((m : ℕ) → l.block ≤ m → get_or (node_of l.nodes l.at).children.1 m [] ≡ get_or (node_of l.fn.nodes l.at).children.1 m [])

abbrev pub invariant-clear_block-loop-i : goal.invariant-clear_block-loop-i
invariant-clear_block-loop-i l =
    ((old : List Node) (done : List (Key × NodeNumber)) → ClearsFirst l.front old (plain l.fn.nodes) l.at done
    → ClearsFirst l.front old (plain l.nodes) l.at (done ++ take l.i (get_or (node_of l.fn.nodes l.at).children.1 l.block [])))
    × (l.count ≡ length (get_or (node_of l.fn.nodes l.at).children.1 l.block []))
    × ((n : NodeNumber) (i : Id) → ShowsPresenceBut l.fn.nodes l.at n i → ShowsPresenceBut l.nodes l.at n i)
    × HavePresenceFrom l.nodes (l.at.0 + 1)
    × HaveCandidates l.nodes
    × ((n : NodeNumber) → n.0 < l.at.0 + 1 → (node_of l.nodes n).children ≡ (node_of l.fn.nodes n).children)
    × IsPartCleared l.front (plain l.fn.nodes) (plain l.nodes)
