use Rattle.doc_nodes.proofs.ListPresence.{keeps_from}
use Rattle.doc_nodes.proofs.list_presence.note_present_child.Goals as goal

pub returns : goal.returns
returns c =
    keeps_from c.args.nodes.now c.args.at c.requires.known c.index-nodes-at.result c.note_present.new.self c.note_present.ensures.same c.args.key.now
    c.note_present.ensures.kept c.note_present.ensures.noted
