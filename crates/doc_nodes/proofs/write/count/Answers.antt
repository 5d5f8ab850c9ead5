use Rattle.std.proofs.Common.{◌≡◌, ◌∙◌, sym, ap, subst, set, get_or, true, w64}
use Rattle.std.proofs.lemmas.List.{get_or_default}
use Rattle.std.proofs.lemmas.Int.{to_z-of_z}
use Rattle.doc_nodes.specs.declared.node.Node.{Node}
use Rattle.doc_nodes.specs.Nodes.{blank_node, node_of}
use Rattle.doc_nodes.specs.Writes.{with_number}
use Rattle.doc_nodes.proofs.write.count.Goals as goal

pub put-requires : goal.put-requires
put-requires c =
    let nodes = c.args.nodes.now in
    let is : get_or nodes c.args.at.0 c.index-nodes-at.result ≡ node_of nodes c.args.at = get_or_default nodes c.args.at.0 c.index-nodes-at.result blank_node c.requires.known in
    subst (λ (z : Node). z.counter.1 ≡ true) (sym is) c.requires.room

pub returns : goal.returns
returns c =
    let nodes = c.args.nodes.now in
    let node = get_or nodes c.args.at.0 c.index-nodes-at.result in
    let is : node ≡ node_of nodes c.args.at = get_or_default nodes c.args.at.0 c.index-nodes-at.result blank_node c.requires.known in
    ap (λ r. set nodes c.args.at.0 (record node { counter = r })) c.put.ensures
    ∙ ap (λ m. set nodes c.args.at.0 (with_number c.args.id.now m node)) (to_z-of_z w64 c.args.n c.ranges.n)
    ∙ ap (λ (z : Node). set nodes c.args.at.0 (with_number c.args.id.now c.args.n z)) is
