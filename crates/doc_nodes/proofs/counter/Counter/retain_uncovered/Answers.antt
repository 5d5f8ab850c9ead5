use Rattle.std.proofs.Common.{◌∙◌, sym, ap, length, arith}
use Rattle.presence_set.proofs.ByIdLaws.{length-uncovered}
use Rattle.doc_nodes.proofs.counter.Counter.retain_uncovered.Goals as goal

pub invariant_of-numbers : goal.invariant_of-numbers
invariant_of-numbers c = record {
  few = omega (arith, c.numbers.invariant.few, length-uncovered c.args.front.now c.numbers.inside.entries.0, ap (λ z. length z.0) c.retain_uncovered.ensures);
  within = c.numbers.invariant.within;
  room = λ is. c.numbers.invariant.room (sym (ap (λ z. z.1) c.retain_uncovered.ensures) ∙ is);
}
