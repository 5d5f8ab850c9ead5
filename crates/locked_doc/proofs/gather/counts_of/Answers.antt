use Rattle.std.proofs.Common.{◌++◌, ◌∷◌, [], length, ap, ◌∙◌}
use Rattle.std.proofs.lemmas.List.{take_all}
use Rattle.doc_rules.specs.Seats.{Seat, told_counts}
use Rattle.locked_doc.proofs.Ends.{noted_read}
use Rattle.locked_doc.proofs.gather.counts_of.Goals as goal

pub loop-end-preserved : goal.loop-end-preserved
loop-end-preserved g c =
    c.in_ok-push.ensures.items ∙ (λ i. c.loop-end.invariant i ++ length (c.acknowledged.ensures i) ∷ [])
    ∙ noted_read (λ (s : Seat). length s.told) c.args.ends.now c.loop-end.end-index c.end-item.result c.loop-end-test.true c.end-item.is

pub returns-clause-ok : goal.returns-clause-ok
returns-clause-ok g c = c.loop-end.invariant ∙ ap told_counts (take_all c.loop-end.end-index c.args.ends.now c.loop-end-test.false)
