use Rattle.std.proofs.Common.{◌≡◌, ◌∙◌, [], get_or, Contains, sym, ap, subst}
use Rattle.std.proofs.lemmas.List.{get_or_default}
use Rattle.doc_nodes.specs.Nodes.{blank_node, node_of}
use Rattle.doc_nodes.proofs.ListPresence.{child_within}
use Rattle.doc_nodes.proofs.list_presence.has_present_child.Goals as goal

pub is_first_present-requires : goal.is_first_present-requires
is_first_present-requires c = λ e there.
    child_within c.args.nodes.now c.requires.tree c.args.at c.requires.known c.index-nodes-at.result e (c.block-children.ensures.some e there)

pub is_any_present-requires : goal.is_any_present-requires
is_any_present-requires c = λ e there.
    child_within c.args.nodes.now c.requires.tree c.args.at c.requires.known c.index-nodes-at.result e (c.block-children.ensures.some e there)

pub returns-else-is_first_present : goal.returns-else-is_first_present
returns-else-is_first_present c = λ none e there.
    let read : get_or (node_of c.args.nodes.now c.args.at).children.1 c.args.block [] ≡ c.block-children.result.now =
    ap (λ z. get_or z.children.1 c.args.block []) (sym (get_or_default c.args.nodes.now c.args.at.0 c.index-nodes-at.result blank_node c.requires.known)) ∙ sym c.block-children.ensures.value in
    c.is_any_present.ensures none e (subst (λ l. Contains l e) read there)
