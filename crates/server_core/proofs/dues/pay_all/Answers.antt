use Rattle.std.proofs.Common.{◌<◌, ◌≤◌, length, get_or, refl, arith, rules}
use Rattle.std.proofs.lemmas.Option.{slice_get_within}
use Rattle.session_core.proofs.Owners.{get-at}
use Rattle.server_core.specs.Pacing.{IsPaid}
use Rattle.server_core.proofs.Counting.{set_stays, paid_more}
use Rattle.server_core.proofs.dues.pay_all.Goals as goal

pub loop-i-init : goal.loop-i-init
loop-i-init g c = record { paid = λ k due less at. absurd (omega (arith, less)); stay = λ document count due. due; length = search rules }

pub returns-then-not-pay-clause-stay : goal.returns-then-not-pay-clause-stay
returns-then-not-pay-clause-stay g c = λ document count due.
    let dues = c.loop-i.dues in
    let old = get_or dues c.loop-i.i c.index-dues-i.result in
    let within : c.loop-i.i < length dues = search rules in
    let more : old.count ≤ c.pay.new.self.count = omega (arith, c.pay.ensures.count) in
    set_stays dues c.loop-i.i old c.pay.new.self (get-at dues c.loop-i.i old c.index-dues-i.result refl within) c.pay.ensures.document more
    document count (c.loop-i.invariant.stay document count due)

pub loop-i-preserved : goal.loop-i-preserved
loop-i-preserved g c =
    let dues = c.loop-i.dues in
    let old = get_or dues c.loop-i.i c.index-dues-i.result in
    let within : c.loop-i.i < length dues = search rules in
    let more : old.count ≤ c.pay.new.self.count = omega (arith, c.pay.ensures.count) in
    let paid : IsPaid c.args.progress.now.pace c.pay.new.self = search rules in
    record {
      paid = paid_more c.args.progress.now.pace dues c.loop-i.i c.pay.new.self within paid c.loop-i.invariant.paid;
      stay = λ document count due.
          set_stays dues c.loop-i.i old c.pay.new.self (get-at dues c.loop-i.i old c.index-dues-i.result refl within) c.pay.ensures.document more
          document count (c.loop-i.invariant.stay document count due);
      length = search rules;
    }

pub returns-clause-paid : goal.returns-clause-paid
returns-clause-paid g c = λ yes i due at.
    let within = slice_get_within c.loop-i.dues i due at in
    let less : i < c.loop-i.i = omega (arith, within) in
    c.loop-i.invariant.paid i due less at
