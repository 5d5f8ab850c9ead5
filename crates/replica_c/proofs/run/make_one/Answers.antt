use Rattle.std.proofs.Common.{refl}
use Rattle.replica_c.proofs.run.make_one.Goals as goal

pub returns-in-Ok-clause-ok : goal.returns-in-Ok-clause-ok
returns-in-Ok-clause-ok c = λ place is_at.
    (c.in-Ok.applied.count, c.in-Ok.applied.dropped, c.in-Ok.ensures.event place is_at, c.add.ensures.ids, c.add.ensures.count, c.add.ensures.dropped)

pub returns-in-Err-clause-err : goal.returns-in-Err-clause-err
returns-in-Err-clause-err c = λ place is_at. (c.in-Err.ensures.event place is_at, refl)
