use Rattle.doc_nodes.proofs.ListPresence.{blocks-facts, blocks-shows, candidates-dropped}
use Rattle.doc_nodes.proofs.list_presence.note_gone_child.Goals as goal

pub returns-clause-facts : goal.returns-clause-facts
returns-clause-facts c = blocks-facts c.args.nodes.now c.note_gone_block.new.nodes c.args.at c.requires.known c.note_gone_block.ensures.changes

pub returns-clause-list_presence : goal.returns-clause-list_presence
returns-clause-list_presence c = λ n i right.
    blocks-shows c.args.nodes.now c.note_gone_block.new.nodes c.args.at c.requires.known c.note_gone_block.ensures.changes n i right

pub returns-clause-candidates : goal.returns-clause-candidates
returns-clause-candidates c = λ right.
    candidates-dropped c.args.nodes.now c.note_gone_block.new.nodes c.args.at c.block_with-block.result c.requires.known c.note_gone_block.ensures right
