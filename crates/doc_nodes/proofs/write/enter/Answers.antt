use Rattle.std.proofs.Common.{◌≡◌, ◌<◌, ◌∙◌, sym, ap, subst, length, lit<, set, get_or}
use Rattle.std.proofs.lemmas.List.{get_or_default}
use Rattle.doc_nodes.specs.declared.node.Node.{Node}
use Rattle.doc_nodes.specs.Nodes.{blank_node, node_of}
use Rattle.doc_nodes.specs.Writes.{with_scalar}
use Rattle.doc_nodes.proofs.write.enter.Goals as goal

pub put-requires : goal.put-requires
put-requires c =
    let nodes = c.args.nodes.now in
    let is : get_or nodes c.args.at.0 c.index-nodes-at.result ≡ node_of nodes c.args.at = get_or_default nodes c.args.at.0 c.index-nodes-at.result blank_node c.requires.known in
    (lit< tt, subst (λ (z : Node). length z.register.0 < z.register.1) (sym is) c.requires.room)

pub returns : goal.returns
returns c =
    let nodes = c.args.nodes.now in
    let node = get_or nodes c.args.at.0 c.index-nodes-at.result in
    let is : node ≡ node_of nodes c.args.at = get_or_default nodes c.args.at.0 c.index-nodes-at.result blank_node c.requires.known in
    ap (λ r. set nodes c.args.at.0 (record node { register = r })) c.put.ensures
    ∙ ap (λ (z : Node). set nodes c.args.at.0 (with_scalar c.args.id.now c.args.scalar z)) is
