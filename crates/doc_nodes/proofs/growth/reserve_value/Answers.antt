use Rattle.std.proofs.Common.{◌≡◌, ap, ◌∙◌}
use Rattle.std.proofs.lemmas.List.{get_or_default}
use Rattle.doc_nodes.specs.declared.node.Node.{Node}
use Rattle.doc_nodes.specs.Nodes.{blank_node, node_of}
use Rattle.doc_nodes.proofs.Adding.{more_register, more_counter}
use Rattle.doc_nodes.proofs.AddingPresence.{tree-set}
use Rattle.doc_nodes.proofs.growth.reserve_value.Goals as goal

pub returns-in_err-reserve_one-clause-tree : goal.returns-in_err-reserve_one-clause-tree
returns-in_err-reserve_one-clause-tree c =
    let items = c.args.nodes.now.items in
    let node = c.index_mut-node.result.now in
    let is : node ≡ node_of items c.args.at = c.index_mut-node.ensures.value ∙ get_or_default items c.args.at.0 node blank_node c.requires.known in
    tree-set items c.args.at _ c.requires.known (ap (λ (z : Node). z.children.0) is) c.requires.tree

pub returns-in_err-reserve_one-clause-grows : goal.returns-in_err-reserve_one-clause-grows
returns-in_err-reserve_one-clause-grows c =
    let items = c.args.nodes.now.items in
    let node = c.index_mut-node.result.now in
    let is : node ≡ node_of items c.args.at = c.index_mut-node.ensures.value ∙ get_or_default items c.args.at.0 node blank_node c.requires.known in
    more_counter items c.args.at c.requires.known node is c.reserve_one.new.self c.reserve_one.ensures.same c.reserve_one.ensures.grows

pub returns-in_ok-reserve_one-clause-tree : goal.returns-in_ok-reserve_one-clause-tree
returns-in_ok-reserve_one-clause-tree c =
    let items = c.args.nodes.now.items in
    let node = c.index_mut-node.result.now in
    let is : node ≡ node_of items c.args.at = c.index_mut-node.ensures.value ∙ get_or_default items c.args.at.0 node blank_node c.requires.known in
    tree-set items c.args.at _ c.requires.known (ap (λ (z : Node). z.children.0) is) c.requires.tree

pub returns-in_ok-reserve_one-clause-grows : goal.returns-in_ok-reserve_one-clause-grows
returns-in_ok-reserve_one-clause-grows c =
    let items = c.args.nodes.now.items in
    let node = c.index_mut-node.result.now in
    let is : node ≡ node_of items c.args.at = c.index_mut-node.ensures.value ∙ get_or_default items c.args.at.0 node blank_node c.requires.known in
    more_counter items c.args.at c.requires.known node is c.reserve_one.new.self c.reserve_one.ensures.same c.reserve_one.ensures.grows

pub returns-in_err-reserve_one-2-clause-tree : goal.returns-in_err-reserve_one-2-clause-tree
returns-in_err-reserve_one-2-clause-tree c =
    let items = c.args.nodes.now.items in
    let node = c.index_mut-node.result.now in
    let is : node ≡ node_of items c.args.at = c.index_mut-node.ensures.value ∙ get_or_default items c.args.at.0 node blank_node c.requires.known in
    tree-set items c.args.at _ c.requires.known (ap (λ (z : Node). z.children.0) is) c.requires.tree

pub returns-in_err-reserve_one-2-clause-grows : goal.returns-in_err-reserve_one-2-clause-grows
returns-in_err-reserve_one-2-clause-grows c =
    let items = c.args.nodes.now.items in
    let node = c.index_mut-node.result.now in
    let is : node ≡ node_of items c.args.at = c.index_mut-node.ensures.value ∙ get_or_default items c.args.at.0 node blank_node c.requires.known in
    more_register items c.args.at c.requires.known node is c.reserve_one-else-adds.new.self c.reserve_one-else-adds.ensures.same c.reserve_one-else-adds.ensures.grows

pub returns-in_ok-reserve_one-2-clause-tree : goal.returns-in_ok-reserve_one-2-clause-tree
returns-in_ok-reserve_one-2-clause-tree c =
    let items = c.args.nodes.now.items in
    let node = c.index_mut-node.result.now in
    let is : node ≡ node_of items c.args.at = c.index_mut-node.ensures.value ∙ get_or_default items c.args.at.0 node blank_node c.requires.known in
    tree-set items c.args.at _ c.requires.known (ap (λ (z : Node). z.children.0) is) c.requires.tree

pub returns-in_ok-reserve_one-2-clause-grows : goal.returns-in_ok-reserve_one-2-clause-grows
returns-in_ok-reserve_one-2-clause-grows c =
    let items = c.args.nodes.now.items in
    let node = c.index_mut-node.result.now in
    let is : node ≡ node_of items c.args.at = c.index_mut-node.ensures.value ∙ get_or_default items c.args.at.0 node blank_node c.requires.known in
    more_register items c.args.at c.requires.known node is c.reserve_one-else-adds.new.self c.reserve_one-else-adds.ensures.same c.reserve_one-else-adds.ensures.grows
