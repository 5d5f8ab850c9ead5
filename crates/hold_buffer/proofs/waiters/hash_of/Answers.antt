use Rattle.std.proofs.Common.{◌∙◌, ap}
use Rattle.std.specs.List.{fold}
use Rattle.std.proofs.lemmas.List.{take_all}
use Rattle.hold_buffer.specs.Waiters.{hash_step}
use Rattle.hold_buffer.proofs.waiters.hash_of.Goals as goal

pub returns-clause-value : goal.returns-clause-value
returns-clause-value c = c.loop-byte.invariant.0 ∙ ap (fold hash_step c.args.counter) (take_all c.loop-byte.byte-index c.args.name.now c.loop-byte-test.false)
