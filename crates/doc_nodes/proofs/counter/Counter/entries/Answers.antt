use Rattle.std.proofs.Common.{ap, length, arith}
use Rattle.doc_nodes.proofs.counter.Counter.entries.Goals as goal

pub returns-clause-few : goal.returns-clause-few
returns-clause-few c =
    omega (arith, ap length c.entries.ensures.value, c.numbers.invariant.few, c.numbers.invariant.within)
