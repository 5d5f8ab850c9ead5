use Rattle.doc_nodes.proofs.ListPresence.{drops_from, drops_nothing}
use Rattle.doc_nodes.proofs.list_presence.note_gone_block.Goals as goal

pub returns-then-has_present_child : goal.returns-then-has_present_child
returns-then-has_present_child c = drops_nothing c.args.nodes.now c.args.at c.args.block

pub returns : goal.returns
returns c =
    drops_from c.args.nodes.now c.args.at c.requires.known c.index-nodes-at.result c.note_gone.new.self c.note_gone.ensures.same c.args.block c.note_gone.ensures.others
    (c.has_present_child.ensures c.if-has_present_child.false)
