use Rattle.std.proofs.Common.{◌∙◌, ◌%◌, ap}
use Rattle.std.specs.List.{fold}
use Rattle.hold_buffer.specs.Waiters.{hash_step, row_of}
use Rattle.hold_buffer.proofs.waiters.row_of.Goals as goal

pub returns-clause-value : goal.returns-clause-value
unfolding row_of
returns-clause-value c =
    ap (λ h. h % 4096) (c.hash_of.ensures.value ∙ ap (fold hash_step (c.args.id.now.counter % 4294967296)) c.as_bytes.ensures.value)
