use Rattle.op_log.proofs.Growing.{far_stands, far_within}
use Rattle.op_log.proofs.index.Index.link_behind.Goals as goal

pub link_over-requires : goal.link_over-requires
link_over-requires c =
    far_within c.requires.links c.requires.last.0 c.args.last c.index.result.now (rw c.number.ensures at c.index.ensures) c.requires.last.1

pub returns-clause-far : goal.returns-clause-far
returns-clause-far c name at =
    c.link_over.ensures.far c.args.entries.now name c.requires.links at
    (far_stands c.requires.links name c.args.last c.index.result.now (rw c.number.ensures at c.index.ensures) at)
