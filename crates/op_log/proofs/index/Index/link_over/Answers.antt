use Rattle.op_log.proofs.Growing.{far_stands}
use Rattle.op_log.proofs.index.Index.link_over.Goals as goal

pub returns-then-span-next-clause-far : goal.returns-then-span-next-clause-far
returns-then-span-next-clause-far c log name are last far =
    far_stands are name c.args.far c.index-next.result.now (rw c.number.ensures at c.index-next.ensures) far
