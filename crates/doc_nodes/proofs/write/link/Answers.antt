use Rattle.std.proofs.Common.{◌≡◌, ◌<◌, ◌∙◌, Contains, sym, ap, subst, length, set, get_or}
use Rattle.std.specs.Option.{ForSome}
use Rattle.std.proofs.lemmas.List.{get_or_default}
use Rattle.list_order.specs.Entries.{ids_of}
use Rattle.doc_nodes.specs.declared.node.Node.{Node}
use Rattle.doc_nodes.specs.Nodes.{blank_node, node_of}
use Rattle.doc_nodes.specs.Writes.{with_entry}
use Rattle.doc_nodes.proofs.write.link.Goals as goal

pub insert_by_rule-requires-clause-room : goal.insert_by_rule-requires-clause-room
insert_by_rule-requires-clause-room c =
    let nodes = c.args.nodes.now in
    let is : get_or nodes c.args.at.0 c.index-nodes-at.result ≡ node_of nodes c.args.at = get_or_default nodes c.args.at.0 c.index-nodes-at.result blank_node c.requires.known in
    subst (λ (z : Node). length z.order.0 < z.order.1) (sym is) c.requires.room

pub insert_by_rule-requires-clause-known : goal.insert_by_rule-requires-clause-known
insert_by_rule-requires-clause-known c =
    let nodes = c.args.nodes.now in
    let is : get_or nodes c.args.at.0 c.index-nodes-at.result ≡ node_of nodes c.args.at = get_or_default nodes c.args.at.0 c.index-nodes-at.result blank_node c.requires.known in
    subst (λ (z : Node). ForSome c.args.after (Contains (ids_of z.order.0))) (sym is) c.requires.reference

pub insert_by_rule-requires-clause-new : goal.insert_by_rule-requires-clause-new
insert_by_rule-requires-clause-new c =
    let nodes = c.args.nodes.now in
    let is : get_or nodes c.args.at.0 c.index-nodes-at.result ≡ node_of nodes c.args.at = get_or_default nodes c.args.at.0 c.index-nodes-at.result blank_node c.requires.known in
    subst (λ (z : Node). ¬ (Contains (ids_of z.order.0) c.args.id.now)) (sym is) c.requires.new

pub returns : goal.returns
returns c =
    let nodes = c.args.nodes.now in
    let node = get_or nodes c.args.at.0 c.index-nodes-at.result in
    let is : node ≡ node_of nodes c.args.at = get_or_default nodes c.args.at.0 c.index-nodes-at.result blank_node c.requires.known in
    ap (λ o. set nodes c.args.at.0 (record node { order = o })) c.insert_by_rule.ensures
    ∙ ap (λ (z : Node). set nodes c.args.at.0 (with_entry c.args.after c.args.id.now z)) is
