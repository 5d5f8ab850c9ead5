use Rattle.std.proofs.Common.{◌∙◌, ◌<◌, ◌≤◌, length, rules, arith, subst}
use Rattle.server_core.proofs.Counting.{any_default, covers_more, either}
use Rattle.server_core.proofs.owing.tell.Goals as goal

pub loop-number-preserved : goal.loop-number-preserved
loop-number-preserved g c =
    let number = c.loop-number.number in
    let counts = c.args.counts.now in
    let within : number < length counts = search rules in
    record {
      covers = covers_more (g.W.Sink.covers c.loop-number.sink) (g.W.Sink.covers c.owe.new.self) counts number c.args.to c.owe.ensures.covered
          (subst (g.W.Sink.covers c.owe.new.self number) (any_default counts number _ 0 within) c.owe.ensures.covers) c.loop-number.invariant.covers;
      bytes = c.owe.ensures.bytes ∙ c.loop-number.invariant.bytes;
      unflushed = c.owe.ensures.unflushed ∙ c.loop-number.invariant.unflushed;
      failed = c.owe.ensures.failed ∙ c.loop-number.invariant.failed;
    }

pub returns-clause-covers : goal.returns-clause-covers
returns-clause-covers g c = λ n.
    let done : c.args.to ≤ c.loop-number.number = omega arith in
    c.loop-number.invariant.covers n (either c.loop-number.number c.args.to n done)
